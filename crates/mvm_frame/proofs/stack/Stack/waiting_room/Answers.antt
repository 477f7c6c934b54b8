use Rattle.std.proofs.Common.{length}
use Rattle.mvm_frame.proofs.Placing.{waiting_room_is, no_waiting, waiting_order}
use Rattle.mvm_frame.proofs.stack.Stack.waiting_room.Goals as goal

pub overflow_sub-result : goal.overflow_sub-result
overflow_sub-result c =
    let s = c.self.inside in
    waiting_order s.top.floor s.top.base (length s.slots.items) s.callers.rows c.in-Some.row c.self.invariant.beneath c.in-Some.ensures.1

pub returns-in-Some : goal.returns-in-Some
returns-in-Some c =
    let s = c.self.inside in
    rw (← c.self.view_is) (waiting_room_is s.top.floor s.top.base s.callers.rows s.slots.items c.in-Some.row c.self.invariant.beneath c.in-Some.ensures.0 c.in-Some.ensures.1)

pub returns-in-None : goal.returns-in-None
returns-in-None c =
    let s = c.self.inside in
    rw (← c.self.view_is) (no_waiting s.callers.rows s.slots.items c.in-None.ensures)
