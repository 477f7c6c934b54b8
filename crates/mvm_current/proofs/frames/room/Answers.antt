use Rattle.std.proofs.Common.{◌∙◌}
use Rattle.mvm_current.proofs.Entering.{room_is}
use Rattle.mvm_current.proofs.frames.room.Goals as goal

pub returns-clause-is : goal.returns-clause-is
returns-clause-is c n limits is = c.fits.ensures ∙ room_is n limits c.args.locals c.args.depth c.args.stack.now is
