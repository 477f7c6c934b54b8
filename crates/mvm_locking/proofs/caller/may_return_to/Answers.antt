use Rattle.std.proofs.Common.{sym, ◌∙◌, arith}
use Rattle.mvm_frame.specs.Calls.{room_of}
use Rattle.mvm_locking.proofs.Waiting.{fits_some, passes_some, none_waits, has_room, wants_none}
use Rattle.mvm_locking.proofs.caller.may_return_to.Goals as goal

pub returns-then-width-room-clause-is : goal.returns-then-width-room-clause-is
returns-then-width-room-clause-is c n = sym (fits_some n c.args.stack.now c.args.kind c.in-Some-kind.kind c.in-Some.room c.in-Some-kind.is (sym c.waiting_room.ensures ∙ c.in-Some.is) (omega (arith, c.width.ensures, c.if-width-room.true)))

pub returns-then-width-room-clause-room : goal.returns-then-width-room-clause-room
returns-then-width-room-clause-room c = has_room c.args.kind (room_of c.args.stack.now.rest.below.callers) c.in-Some-kind.kind c.in-Some.room c.in-Some-kind.is (sym c.waiting_room.ensures ∙ c.in-Some.is) (omega (arith, c.width.ensures, c.if-width-room.true))

pub returns-else-width-room-clause-is : goal.returns-else-width-room-clause-is
returns-else-width-room-clause-is c n = sym (passes_some n c.args.stack.now c.args.kind c.in-Some-kind.kind c.in-Some.room c.in-Some-kind.is (sym c.waiting_room.ensures ∙ c.in-Some.is) (omega (arith, c.width.ensures, c.if-width-room.false)))

pub returns-in-None-clause-is : goal.returns-in-None-clause-is
returns-in-None-clause-is c n = sym (none_waits n c.args.stack.now c.args.kind (sym c.waiting_room.ensures ∙ c.in-None.is))

pub returns-in-None-clause-room : goal.returns-in-None-clause-room
returns-in-None-clause-room c = wants_none c.args.kind (room_of c.args.stack.now.rest.below.callers) (sym c.waiting_room.ensures ∙ c.in-None.is)
