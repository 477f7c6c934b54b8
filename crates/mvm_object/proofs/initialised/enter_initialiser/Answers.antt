use Rattle.std.proofs.Common.{◌≡◌, ◌∙◌, ◌∷◌, List, ap}
use Rattle.mvm_isolate.specs.Numbered.{name_at}
use Rattle.mvm_current.specs.Frames.{bare_frame, initialising, Frame, SUPERS}
use Rattle.mvm_current.specs.Keys.{callers_named, frames_named, top_named}
use Rattle.mvm_object.proofs.Initialising.{frames_there, has_frame, split}
use Rattle.mvm_object.proofs.initialised.enter_initialiser.Goals as goal

pub returns-clause-top : goal.returns-clause-top
returns-clause-top c = λ n.
    (split n c.enter_bare.new.stack (bare_frame (initialising (name_at n c.args.mirror)) SUPERS) (frames_named n c.args.stack.now) (c.enter_bare.ensures.does n)).0

pub returns-clause-callers : goal.returns-clause-callers
returns-clause-callers c = λ n.
    (split n c.enter_bare.new.stack (bare_frame (initialising (name_at n c.args.mirror)) SUPERS) (frames_named n c.args.stack.now) (c.enter_bare.ensures.does n)).1
    ∙ frames_there n c.args.stack.now c.requires.frame

pub returns-clause-frame : goal.returns-clause-frame
returns-clause-frame c = λ n. has_frame n c.enter_bare.new.stack (bare_frame (initialising (name_at n c.args.mirror)) SUPERS) (frames_named n c.args.stack.now) (c.enter_bare.ensures.does n)
