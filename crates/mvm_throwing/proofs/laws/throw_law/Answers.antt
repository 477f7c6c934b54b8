use Rattle.mvm_throwing.proofs.Operands.{same_operands}
use Rattle.mvm_throwing.proofs.laws.throw_law.Goals as goal

pub returns : goal.returns
returns c = same_operands
