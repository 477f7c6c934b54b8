use native.Mathlib.Omega.{arith}
use Rattle.std.proofs.Common.{refl}
use Rattle.std.proofs.lemmas.Option.{slice_get_read}
use Rattle.std.specs.Prelude.{length}
use Rattle.mvm_interp.proofs.Attempting.{held}
use Rattle.mvm_interp.proofs.Keeping.{told_found}
use Rattle.mvm_interp.proofs.task_state.TaskState.told.Goals as goal

pub returns-clause-told : goal.returns-clause-told
returns-clause-told c =
    let t = held c.self.inside in
    let below = rw (← c.self.view_is) at c.requires in
    let row = c.index.result.now in
    rw (← c.self.view_is) (told_found t c.args.thread row c.self.invariant below (slice_get_read t.rows (length t.rows) c.args.thread row refl (omega (arith, below, c.self.invariant.begun)) c.index.ensures))
