use Rattle.std.proofs.Common.{sym, arith}
use Rattle.mvm_frame.proofs.Placing.{part_read, part_past, has_frame}
use Rattle.mvm_frame.proofs.stack.Stack.local.Goals as goal

pub returns-then-at-self-clause-is : goal.returns-then-at-self-clause-is
returns-then-at-self-clause-is c =
    let s = c.self.inside in
    rw (← c.self.view_is) (sym (part_read s.top.bottom s.top.base c.args.at s.slots.items c.index.result.now c.if-at-self.true c.self.invariant.order.base c.index.ensures))

pub returns-then-at-self-clause-frame : goal.returns-then-at-self-clause-frame
returns-then-at-self-clause-frame c = λ some.
    let s = c.self.inside in
    let o = c.self.invariant.order in
    rw (← c.self.view_is) (has_frame s.top s.callers.rows s.slots.items c.self.invariant (omega (arith, c.if-at-self.true, o.floor, o.sp, o.bottom)))

pub returns-else-at-self-clause-is : goal.returns-else-at-self-clause-is
returns-else-at-self-clause-is c =
    let s = c.self.inside in
    rw (← c.self.view_is) (part_past s.top.bottom s.top.base c.args.at s.slots.items c.if-at-self.false c.self.invariant.order.base)
