use Rattle.std.proofs.Common.{length, refl}
use Rattle.mvm_frame.proofs.Placing.{left_stands, left_is}
use Rattle.mvm_frame.proofs.stack.Stack.leave.Goals as goal

pub invariant_of-self : goal.invariant_of-self
invariant_of-self c =
    let s = c.self.inside in
    left_stands c.in-Some.row c.pop.new.self.rows s.callers.rows s.top.floor s.top.base (length s.slots.items) s.slots.items refl c.self.invariant.few c.in-Some.ensures.0 c.self.invariant.beneath

pub returns-in-Some-clause-some : goal.returns-in-Some-clause-some
returns-in-Some-clause-some c =
    let s = c.self.inside in
    let h = left_stands c.in-Some.row c.pop.new.self.rows s.callers.rows s.top.floor s.top.base (length s.slots.items) s.slots.items refl c.self.invariant.few c.in-Some.ensures.0 c.self.invariant.beneath in
    rw (← c.self.view_is, c.in-Some.ensures.0, ← c.in-Some.ensures.1) (left_is c.in-Some.row c.pop.new.self.rows c.pop.new.self.most s.slots.items h)
