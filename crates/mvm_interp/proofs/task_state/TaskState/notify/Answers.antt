use Rattle.std.proofs.Common.{◌≡◌, ◌∙◌, sym}
use Rattle.std.specs.Prelude.{length, None, drop}
use Rattle.mvm_interp.proofs.Attempting.{held}
use Rattle.mvm_interp.proofs.Keeping.{grown_keeps}
use Rattle.mvm_interp.proofs.Waking.{notified_is, nobody_is, none_found, put_back}
use Rattle.mvm_interp.proofs.task_state.TaskState.notify.Goals as goal

pub invariant_of-self : goal.invariant_of-self
invariant_of-self c =
    let t = held c.self.inside in
    let n = c.notify.new.self in
    let whole = put_back c.wake_thread.new.rows (drop (length c.wake_thread.new.rows) t.rows) c.self.inside.rows.len (sym c.deref_mut.ensures.len ∙ sym c.wake_thread.ensures.all) in
    rw whole (c.wake_thread.ensures.kept n t.ended t.steps (rw c.deref_mut.ensures.value (grown_keeps t.isolate n t.rows t.count t.ended t.steps c.self.invariant c.notify.ensures.grows c.notify.ensures.links)))

pub invariant_of-self-in_default : goal.invariant_of-self-in_default
invariant_of-self-in_default c =
    let t = held c.self.inside in
    grown_keeps t.isolate c.notify.new.self t.rows t.count t.ended t.steps c.self.invariant c.notify.ensures.grows c.notify.ensures.links

pub returns-in-Some : goal.returns-in-Some
returns-in-Some c =
    let t = held c.self.inside in
    let n = c.notify.new.self in
    let read = rw (← c.self.view_is) at c.requires in
    let whole = put_back c.wake_thread.new.rows (drop (length c.wake_thread.new.rows) t.rows) c.self.inside.rows.len (sym c.deref_mut.ensures.len ∙ sym c.wake_thread.ensures.all) in
    let named = rw c.deref_mut.ensures.value at (c.wake_thread.ensures.named n) in
    record {
      names = rw (whole, ← c.self.view_is)
          (notified_is t n c.wake_thread.new.rows c.args.object c.in-Some.thread c.self.invariant read c.notify.ensures.grows c.notify.ensures.links (sym c.in-Some.is ∙ c.notify.ensures.thread) c.notify.ensures.others named);
      files = rw (← c.self.view_is) c.notify.ensures.grows.files;
    }

pub returns-in_default : goal.returns-in_default
returns-in_default c =
    let t = held c.self.inside in
    let read = rw (← c.self.view_is) at c.requires in
    let nobody : None ≡ c.notify.result = none_found c.notify.result c.in_default.not-Some in
    record {
      names = rw (← c.self.view_is)
          (nobody_is t c.notify.new.self c.args.object c.self.invariant read c.notify.ensures.grows c.notify.ensures.links (nobody ∙ c.notify.ensures.thread) c.notify.ensures.others);
      files = rw (← c.self.view_is) c.notify.ensures.grows.files;
    }
