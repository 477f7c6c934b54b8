use Rattle.std.proofs.Common.{subst, sym}
use Rattle.std.specs.Prelude.{IfSome, Option}
use Rattle.mvm_builtin.specs.Table.{Row, rows}
use Rattle.mvm_builtin.specs.Classes.{builtin_at, IsReread}
use Rattle.mvm_builtin.proofs.Computed.{all_reread}
use Rattle.mvm_builtin.proofs.Found.{found_at}
use Rattle.mvm_builtin.proofs.classes.builtin_at.Goals as goal

pub file_of-requires : goal.file_of-requires
unfolding rows
file_of-requires c = subst (λ (found : Option Row). IfSome found IsReread) (sym c.row_at.ensures) (found_at IsReread c.args.place rows all_reread)

pub returns : goal.returns
unfolding builtin_at rows
returns c = rw c.row_at.ensures at c.file_of.ensures
