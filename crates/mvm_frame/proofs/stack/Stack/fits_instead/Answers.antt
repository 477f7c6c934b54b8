use Rattle.std.proofs.Common.{arith}
use Rattle.mvm_frame.proofs.Placing.{fits_left}
use Rattle.mvm_frame.proofs.stack.Stack.fits_instead.Goals as goal

pub returns : goal.returns
returns c =
    let s = c.self.inside in
    fits_left s.top s.callers s.slots.items c.args.self.now c.args.locals c.args.depth c.self.invariant c.self.view_is (omega (arith, c.len-frames.ensures.is, c.len-frames.ensures.within)) c.requires
