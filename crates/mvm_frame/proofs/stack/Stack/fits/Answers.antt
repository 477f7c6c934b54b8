use Rattle.std.proofs.Common.{sym}
use Rattle.mvm_frame.proofs.Placing.{fits_full, fits_words}
use Rattle.mvm_frame.proofs.stack.Stack.fits.Goals as goal

pub returns-then-not-is_full : goal.returns-then-not-is_full
returns-then-not-is_full c =
    let s = c.self.inside in
    rw (← c.self.view_is) (sym (fits_words s.top s.callers s.slots.items c.args.locals c.args.depth c.self.invariant c.if-not-is_full.ensures))

pub returns-else-not-is_full : goal.returns-else-not-is_full
returns-else-not-is_full c =
    let s = c.self.inside in
    rw (← c.self.view_is, c.if-not-is_full.false) (sym (fits_full s.top s.callers s.slots.items c.args.locals c.args.depth c.if-not-is_full.ensures))
