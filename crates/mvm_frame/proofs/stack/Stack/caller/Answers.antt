use Rattle.std.proofs.Common.{arith}
use Rattle.mvm_frame.proofs.Placing.{caller_is, no_caller, waits_on}
use Rattle.mvm_frame.proofs.stack.Stack.caller.Goals as goal

pub returns-in-Some-clause-is : goal.returns-in-Some-clause-is
returns-in-Some-clause-is c =
    let s = c.self.inside in
    rw (← c.self.view_is) (caller_is s.callers.rows s.slots.items c.args.at c.in-Some.row c.in-Some.ensures.0 c.in-Some.ensures.1)

pub returns-in-Some-clause-frame : goal.returns-in-Some-clause-frame
returns-in-Some-clause-frame c = λ some.
    let s = c.self.inside in
    rw (← c.self.view_is) (waits_on s.top s.callers.rows (omega (arith, c.in-Some.ensures.0)))

pub returns-in-None-clause-is : goal.returns-in-None-clause-is
returns-in-None-clause-is c =
    let s = c.self.inside in
    rw (← c.self.view_is) (no_caller s.callers.rows s.slots.items c.args.at c.in-None.ensures)
