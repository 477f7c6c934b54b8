use Rattle.std.proofs.Common.{◌-◌, ◌<◌, arith}
use Rattle.mvm_frame.proofs.Placing.{has_room, moved, written, put_operands, put_rest}
use Rattle.mvm_frame.proofs.stack.Stack.put.Goals as goal

pub overflow_sub-sp : goal.overflow_sub-sp
overflow_sub-sp c = omega (arith, has_room c.self.inside.top c.self.inside.callers c.self.inside.slots.items c.self.invariant (rw (← c.self.view_is) at c.requires))

pub invariant_of-self : goal.invariant_of-self
invariant_of-self c =
    let s = c.self.inside in
    let room : s.top.floor < s.top.sp = has_room s.top s.callers s.slots.items c.self.invariant (rw (← c.self.view_is) at c.requires) in
    moved s.top s.callers.rows _ (s.top.sp - 1) (written s.top s.callers.rows s.slots.items (s.top.sp - 1) c.args.slot c.self.invariant) (omega (arith, room)) (omega (arith, c.self.invariant.order.sp))

pub returns-clause-operands : goal.returns-clause-operands
returns-clause-operands c =
    let s = c.self.inside in
    let room : s.top.floor < s.top.sp = has_room s.top s.callers s.slots.items c.self.invariant (rw (← c.self.view_is) at c.requires) in
    rw (← c.self.view_is) (put_operands s.top s.callers s.slots.items (s.top.sp - 1) c.args.slot c.self.invariant (omega (arith, room)))

pub returns-clause-rest : goal.returns-clause-rest
returns-clause-rest c =
    let s = c.self.inside in
    let room : s.top.floor < s.top.sp = has_room s.top s.callers s.slots.items c.self.invariant (rw (← c.self.view_is) at c.requires) in
    rw (← c.self.view_is) (put_rest s.top s.callers s.slots.items (s.top.sp - 1) c.args.slot c.self.invariant (omega (arith, room, c.self.invariant.order.sp)))
