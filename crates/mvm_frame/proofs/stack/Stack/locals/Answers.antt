use Rattle.std.proofs.Common.{sym, arith}
use Rattle.mvm_frame.proofs.Placing.{length_part, has_frame}
use Rattle.mvm_frame.proofs.stack.Stack.locals.Goals as goal

pub returns-clause-is : goal.returns-clause-is
returns-clause-is c =
    let s = c.self.inside in
    rw (← c.self.view_is) (sym (length_part s.top.bottom s.top.base s.slots.items c.self.invariant.order.base))

pub returns-clause-few : goal.returns-clause-few
returns-clause-few c = omega (arith, c.self.invariant.few, c.self.invariant.order.base)

pub returns-clause-frame : goal.returns-clause-frame
returns-clause-frame c = λ some.
    let s = c.self.inside in
    let o = c.self.invariant.order in
    rw (← c.self.view_is) (has_frame s.top s.callers.rows s.slots.items c.self.invariant (omega (arith, some, o.floor, o.sp, o.bottom)))
