use Rattle.std.proofs.Common.{arith}
use Rattle.mvm_layout.proofs.Layouts.{found, only}
use Rattle.mvm_layout.proofs.Within.{within}
use Rattle.mvm_layout.proofs.read.read_layout.Goals as goal

pub returns-clause-found : goal.returns-clause-found
returns-clause-found c = found c.args.bytes.now c.laid.result c.laid.ensures

pub returns-clause-only : goal.returns-clause-only
returns-clause-only c = λ info s. only c.args.bytes.now c.laid.result info c.laid.ensures s

pub returns-clause-within : goal.returns-clause-within
returns-clause-within c = within c.args.bytes.now c.laid.result (λ i. omega (arith, c.type_inv.bytes i)) c.requires c.laid.ensures
