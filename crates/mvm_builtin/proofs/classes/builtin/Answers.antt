use Rattle.std.proofs.Common.{subst, sym}
use Rattle.std.specs.Prelude.{IfSome, Option}
use Rattle.mvm_builtin.specs.Table.{Row, rows}
use Rattle.mvm_builtin.specs.Classes.{builtin, IsReread}
use Rattle.mvm_builtin.proofs.Computed.{all_reread}
use Rattle.mvm_builtin.proofs.Found.{found_named}
use Rattle.mvm_builtin.proofs.classes.builtin.Goals as goal

pub file_of-requires : goal.file_of-requires
unfolding rows
file_of-requires c = subst (λ (found : Option Row). IfSome found IsReread) (sym c.row_named.ensures) (found_named IsReread c.args.name.now rows all_reread)

pub returns : goal.returns
unfolding builtin rows
returns c = rw c.row_named.ensures at c.file_of.ensures
