use Rattle.std.proofs.Common.{sym}
use Rattle.mvm_current.specs.Keys.{top_named}
use Rattle.mvm_object.specs.Coming.{point_of}
use Rattle.mvm_locking.proofs.Leaving.{left_so, room_rest, unpopped}
use Rattle.mvm_locking.proofs.returns.returned_from.Goals as goal

pub left_with-requires-clause-room : goal.left_with-requires-clause-room
left_with-requires-clause-room c = room_rest c.args.kind (top_named c.args.isolate.now c.args.stack.now) c.in-Ok.value c.args.stack.now c.popped_result.new.stack (sym (c.in-Ok.ensures.does c.args.isolate.now)) c.in-Ok.ensures.rest c.requires.room

pub returns-in-Ok-clause-does : goal.returns-in-Ok-clause-does
returns-in-Ok-clause-does c told e =
    left_so told c.args.thread c.args.kind c.args.next c.in-Ok.value c.args.isolate.now c.left_with.new.isolate c.args.stack.now c.popped_result.new.stack c.left_with.new.stack c.left_with.result e
    (sym (c.in-Ok.ensures.does c.args.isolate.now)) c.in-Ok.ensures.rest c.left_with.ensures.unlocks c.left_with.ensures.returns

pub returns-in-Err-clause-does : goal.returns-in-Err-clause-does
returns-in-Err-clause-does c told e other = unpopped told c.args.kind c.args.next c.in-Err.stop (point_of c.args.isolate.now c.args.stack.now) (sym (c.in-Err.ensures.does c.args.isolate.now))
