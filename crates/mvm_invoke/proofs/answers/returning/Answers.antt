use Rattle.mvm_invoke.proofs.answers.returning.Goals as goal

pub returns-in-Some-clause-does : goal.returns-in-Some-clause-does
returns-in-Some-clause-does c context n object = rw c.in-Some.is (c.giving.ensures.does context n object)

pub returns-in-None-clause-does : goal.returns-in-None-clause-does
returns-in-None-clause-does c context n object = rw c.in-None.is (c.going.ensures.does context n object)
