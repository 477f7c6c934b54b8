use Rattle.std.proofs.Common.{◌+◌, ◌≤◌, arith}
use Rattle.mvm_frame.proofs.Placing.{depth_is, moved, part_drop}
use Rattle.mvm_frame.proofs.stack.Stack.drop_slots.Goals as goal

pub overflow_add-self : goal.overflow_add-self
overflow_add-self c =
    let s = c.self.inside in
    let o = c.self.invariant.order in
    omega (arith, depth_is s.top s.callers s.slots.items c.self.invariant, rw (← c.self.view_is) at c.requires, o.bottom, o.base, c.self.invariant.few)

pub invariant_of-self : goal.invariant_of-self
invariant_of-self c =
    let s = c.self.inside in
    let o = c.self.invariant.order in
    let h : s.top.sp + c.args.count ≤ s.top.bottom = omega (arith, depth_is s.top s.callers s.slots.items c.self.invariant, rw (← c.self.view_is) at c.requires, o.sp) in
    moved s.top s.callers.rows s.slots.items (s.top.sp + c.args.count) c.self.invariant (omega (arith, o.floor)) h

pub returns-clause-operands : goal.returns-clause-operands
returns-clause-operands c =
    let s = c.self.inside in
    let o = c.self.invariant.order in
    let h : s.top.sp + c.args.count ≤ s.top.bottom = omega (arith, depth_is s.top s.callers s.slots.items c.self.invariant, rw (← c.self.view_is) at c.requires, o.sp) in
    rw (part_drop s.top.sp s.top.bottom c.args.count s.slots.items h, ← c.self.view_is)
