use native.Mathlib.Omega.{arith}
use Rattle.mvm_interp.proofs.Beginning.{start_keeps}
use Rattle.mvm_interp.proofs.task_state.TaskState.start.Goals as goal

pub invariant_of-self : goal.invariant_of-self
invariant_of-self c =
    let t = c.self.inside in
    let more = rw (← c.self.view_is) at c.requires in
    start_keeps t.isolate t.rows.items t.count t.ended t.steps c.begin_row.new.row c.self.invariant (omega (arith, more, c.self.invariant.most)) c.begin_row.ensures.row c.begin_row.ensures.state
