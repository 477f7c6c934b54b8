use Rattle.mvm_invoke.proofs.answers.acting.Goals as goal

pub returns-in-Offer-clause-does : goal.returns-in-Offer-clause-does
returns-in-Offer-clause-does c context n object = rw c.in-Offer.is (c.leaving.ensures.does context n object)

pub returns-in-Receive-clause-does : goal.returns-in-Receive-clause-does
returns-in-Receive-clause-does c context n object = rw c.in-Receive.is (c.leaving-in-Receive.ensures.does context n object)

pub returns-in-Ask-clause-does : goal.returns-in-Ask-clause-does
returns-in-Ask-clause-does c context n object = rw c.in-Ask.is (c.leaving-in-Ask.ensures.does context n object)
