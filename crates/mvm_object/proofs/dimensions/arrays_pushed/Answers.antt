use Rattle.mvm_object.proofs.Lengths.{has_room, pushed_is}
use Rattle.mvm_object.proofs.dimensions.arrays_pushed.Goals as goal

pub unreachable-requires : goal.unreachable-requires
unreachable-requires c =
    has_room c.new_arrays.new.isolate c.args.stack.now c.drop_slots.new.self _ c.in-Err.field-0 c.drop_slots.ensures.operands c.requires.some c.requires.there c.room-room.ensures.within (c.in-Err.ensures.room c.new_arrays.new.isolate)

pub returns-clause-does : goal.returns-clause-does
returns-clause-does c = λ context.
    pushed_is context c.args.shape.now c.args.counts.now c.args.next c.args.isolate.now c.new_arrays.new.isolate c.args.stack.now c.drop_slots.new.self c.in_ok-array.array _ c.in_ok-array.ensures.does
    c.drop_slots.ensures.operands c.drop_slots.ensures.rest c.in_ok-array.ensures.grows c.requires.keys (c.in-Ok.ensures.does context c.new_arrays.new.isolate)
