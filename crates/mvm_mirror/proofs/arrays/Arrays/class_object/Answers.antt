use Rattle.mvm_mirror.proofs.ArrayRows.{object_is}
use Rattle.mvm_mirror.proofs.arrays.Arrays.class_object.Goals as goal

pub returns : goal.returns
returns c = rw (← c.self.view_is) (λ shape k. object_is c.self.inside.rows.items c.args.number c.row_at.result.now shape (rw c.deref.ensures.value at c.row_at.ensures) k)
