use Rattle.mvm_mirror.proofs.ArrayRows.{shape_at}
use Rattle.mvm_mirror.proofs.arrays.Arrays.shape.Goals as goal

pub returns-clause-numbered : goal.returns-clause-numbered
returns-clause-numbered c =
    rw (← c.self.view_is) (c.self.invariant.own c.args.number c.row_at.result.now.shape (shape_at c.self.inside.rows.items c.args.number c.row_at.result.now (rw c.deref.ensures.value at c.row_at.ensures)))
