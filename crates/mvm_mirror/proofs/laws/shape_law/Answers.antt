use Rattle.mvm_mirror.proofs.SameShape.{shape_told}
use Rattle.mvm_mirror.proofs.laws.shape_law.Goals as goal

pub returns : goal.returns
returns c = shape_told
