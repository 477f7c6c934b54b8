use Rattle.std.proofs.Common.{arith}
use Rattle.mvm_frame.proofs.Placing.{depth_is, part_read}
use Rattle.mvm_frame.proofs.stack.Stack.peek.Goals as goal

pub index-requires : goal.index-requires
index-requires c =
    let s = c.self.inside in
    let o = c.self.invariant.order in
    omega (arith, depth_is s.top s.callers s.slots.items c.self.invariant, rw (← c.self.view_is) at c.requires, o.bottom, o.base)

pub overflow_add-self-inside : goal.overflow_add-self-inside
overflow_add-self-inside c =
    let s = c.self.inside in
    let o = c.self.invariant.order in
    omega (arith, depth_is s.top s.callers s.slots.items c.self.invariant, rw (← c.self.view_is) at c.requires, o.bottom, o.base, c.self.invariant.few)

pub returns : goal.returns
returns c =
    let s = c.self.inside in
    let o = c.self.invariant.order in
    rw (← c.self.view_is) (part_read s.top.sp s.top.bottom c.args.at s.slots.items c.index.result.now (omega (arith, depth_is s.top s.callers s.slots.items c.self.invariant, rw (← c.self.view_is) at c.requires)) (omega (arith, o.bottom, o.base)) c.index.ensures)
