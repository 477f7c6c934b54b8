use Rattle.mvm_layout.proofs.Layouts.{code_found, code_only}
use Rattle.mvm_layout.proofs.read.read_code.Goals as goal

pub returns-clause-found : goal.returns-clause-found
returns-clause-found c = code_found c.args.attribute.now c.code_in.result c.code_in.ensures

pub returns-clause-only : goal.returns-clause-only
returns-clause-only c = λ info s. code_only c.args.attribute.now c.code_in.result info c.code_in.ensures s
