use Rattle.mvm_listing.proofs.Whole.{parts_again, class_again}
use Rattle.mvm_listing.proofs.laws.class_law.Goals as goal

pub returns-clause-parts : goal.returns-clause-parts
returns-clause-parts c = parts_again

pub returns-clause-class : goal.returns-clause-class
returns-clause-class c = class_again
