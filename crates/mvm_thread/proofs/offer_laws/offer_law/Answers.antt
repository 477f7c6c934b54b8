use Rattle.mvm_thread.proofs.OfferingSteps.{step_alone, step_none}
use Rattle.mvm_thread.proofs.offer_laws.offer_law.Goals as goal

pub returns-clause-offer : goal.returns-clause-offer
returns-clause-offer c = step_none

pub returns-clause-alone : goal.returns-clause-alone
returns-clause-alone c = step_alone
