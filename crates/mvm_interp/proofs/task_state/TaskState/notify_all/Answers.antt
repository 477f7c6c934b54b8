use Rattle.std.proofs.Common.{◌∙◌, sym}
use Rattle.std.specs.Prelude.{length, drop}
use Rattle.mvm_interp.proofs.Attempting.{held}
use Rattle.mvm_interp.proofs.Keeping.{grown_keeps}
use Rattle.mvm_interp.proofs.Waking.{all_notified_is, put_back}
use Rattle.mvm_interp.proofs.task_state.TaskState.notify_all.Goals as goal

pub invariant_of-self : goal.invariant_of-self
invariant_of-self c =
    let t = held c.self.inside in
    let n = c.forget_waiters.new.isolate in
    let whole = put_back c.wake_threads.new.rows (drop (length c.wake_threads.new.rows) t.rows) c.self.inside.rows.len (sym c.deref_mut.ensures.len ∙ sym c.wake_threads.ensures.all) in
    rw whole (c.wake_threads.ensures.kept n t.count t.ended t.steps (rw c.deref_mut.ensures.value (grown_keeps t.isolate n t.rows t.count t.ended t.steps c.self.invariant c.forget_waiters.ensures.grows c.forget_waiters.ensures.links)))

pub returns : goal.returns
returns c =
    let t = held c.self.inside in
    let n = c.forget_waiters.new.isolate in
    let read = rw (← c.self.view_is) at c.requires in
    let whole = put_back c.wake_threads.new.rows (drop (length c.wake_threads.new.rows) t.rows) c.self.inside.rows.len (sym c.deref_mut.ensures.len ∙ sym c.wake_threads.ensures.all) in
    let named = rw c.deref_mut.ensures.value at (c.wake_threads.ensures.named n t.count) in
    record {
      names = rw (whole, ← c.self.view_is)
          (all_notified_is t n c.wake_threads.new.rows c.args.object c.self.invariant read c.forget_waiters.ensures.grows c.forget_waiters.ensures.links c.forget_waiters.ensures.named named);
      files = rw (← c.self.view_is) c.forget_waiters.ensures.grows.files;
    }
