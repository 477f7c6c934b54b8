use Rattle.std.proofs.Common.{◌∙◌, ap}
use Rattle.std.specs.Prelude.{List, ◌∷◌}
use Rattle.mvm_current.specs.Frames.{Frame, bare_frame, starting}
use Rattle.mvm_object.specs.Going.{ready}
use Rattle.mvm_thread.specs.State.{Thread}
use Rattle.mvm_interp.proofs.Beginning.{idle_frames, idle_keys, idle_limits}
use Rattle.mvm_interp.proofs.starting.begin_row.Goals as goal

pub returns-clause-named : goal.returns-clause-named
returns-clause-named c =
    let n = c.args.isolate.now in
    let f : List Frame → Thread = λ fs. record { doing = ready; object = c.args.object; frames = fs } in
    ap f (c.enter_bare.ensures.does n ∙ ap (λ (fs : List Frame). bare_frame starting 0 ∷ fs) (idle_frames n n.env.launch.limits.frames c.args.row.now.stack c.requires.idle))

pub returns-clause-row : goal.returns-clause-row
returns-clause-row c =
    let n = c.args.isolate.now in
    record {
      keys = c.enter_bare.ensures.keys n c.thread_class.ensures.there (idle_keys n n.env.launch.limits.frames c.args.row.now.stack c.requires.idle);
      limits = c.enter_bare.ensures.limits n.env.launch.limits (idle_limits n c.args.row.now.stack c.requires.idle);
      state = tt;
    }
