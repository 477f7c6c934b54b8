use Rattle.mvm_shape.proofs.Lowest.{told, lowest, none}
use Rattle.mvm_shape.proofs.laws.shape_law.Goals as goal

pub returns-clause-told : goal.returns-clause-told
returns-clause-told c = told

pub returns-clause-lowest : goal.returns-clause-lowest
returns-clause-lowest c = lowest

pub returns-clause-none : goal.returns-clause-none
returns-clause-none c = none
