use Rattle.std.proofs.Common.{arith}
use Rattle.mvm_frame.proofs.Placing.{room_is, depth_is, has_frame}
use Rattle.mvm_frame.proofs.stack.Stack.room.Goals as goal

pub returns-clause-is : goal.returns-clause-is
returns-clause-is c = rw (← c.self.view_is) (room_is c.self.inside.top c.self.inside.callers c.self.inside.slots.items c.self.invariant)

pub returns-clause-frame : goal.returns-clause-frame
returns-clause-frame c = λ some.
    let s = c.self.inside in
    let o = c.self.invariant.order in
    rw (← c.self.view_is) (has_frame s.top s.callers.rows s.slots.items c.self.invariant (omega (arith, some, o.floor, o.sp, o.bottom)))

pub returns-clause-within : goal.returns-clause-within
returns-clause-within c =
    let s = c.self.inside in
    let o = c.self.invariant.order in
    rw (← c.self.view_is) (omega (arith, o.floor, o.sp, depth_is s.top s.callers s.slots.items c.self.invariant))
