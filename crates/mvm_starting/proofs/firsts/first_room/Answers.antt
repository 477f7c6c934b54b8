use Rattle.std.proofs.Common.{ap, ◌∙◌}
use Rattle.mvm_frame.specs.Parts.{stack_with}
use Rattle.mvm_current.specs.Frames.{has_room}
use Rattle.mvm_current.specs.Keys.{callers_named}
use Rattle.mvm_starting.proofs.Taking.{room_left}
use Rattle.mvm_starting.proofs.firsts.first_room.Goals as goal

pub returns-clause-is : goal.returns-clause-is
returns-clause-is c n limits is =
    c.fits_instead.ensures ∙ room_left n limits c.max.result c.args.head.depth c.args.stack.now is
    ∙ ap (λ k. has_room limits k c.args.head.depth (callers_named n c.args.stack.now)) c.max.ensures
