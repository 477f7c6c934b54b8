use Rattle.std.proofs.Common.{◌≡◌, ◌<◌, ◌-◌, length, take, drop, arith}
use Rattle.std.specs.Prelude.{slice_index_or}
use Rattle.std.proofs.lemmas.Grind.{common_steps}
use Rattle.std.proofs.lemmas.Result.{err_from_is_err_and}
use Rattle.mvm_isolate.specs.Numbered.{named}
use Rattle.mvm_initialise.specs.Arrays.{HasItems}
use Rattle.mvm_initialise.proofs.Dimensions.{cut, making_begins, making_fails, making_has, making_more, none_made, whole_alone, whole_fails}
use Rattle.mvm_initialise.proofs.arrays.+arrays_made.Goals as goal

pub returns-in_default-clause-does : goal.returns-in_default-clause-does
returns-in_default-clause-does t c = none_made c.args.isolate.now c.args.dimensions.now (named c.args.isolate.now) (omega (arith, c.in_default.len_below))

pub returns-in_err-array-clause-does : goal.returns-in_err-array-clause-does
returns-in_err-array-clause-does t c =
    let p = err_from_is_err_and c.from_residual.result c.from_residual.ensures.1 in
    rw (p.1, p.2)
    (whole_fails c.args.isolate.now (slice_index_or c.args.dimensions.now 0 (record { row = 0; count = 0 })) c.args.dimensions.now (take (length c.args.dimensions.now - 1) (drop 1 c.args.dimensions.now))
    (cut c.args.dimensions.now (record { row = 0; count = 0 }) (omega (arith, c.in-len1-up.len_at_least))) c.in_err-array.field-0.0 c.in_err-array.ensures.does)

pub returns-then-is_empty-clause-does : goal.returns-then-is_empty-clause-does
returns-then-is_empty-clause-does t c =
    let none : length (take (length c.args.dimensions.now - 1) (drop 1 c.args.dimensions.now)) ≡ 0 = grind (arith, common_steps, c.is_empty.ensures, c.if-is_empty.true) in
    whole_alone c.args.isolate.now (slice_index_or c.args.dimensions.now 0 (record { row = 0; count = 0 })) c.args.dimensions.now (take (length c.args.dimensions.now - 1) (drop 1 c.args.dimensions.now))
    (cut c.args.dimensions.now (record { row = 0; count = 0 }) (omega (arith, c.in-len1-up.len_at_least))) c.in_ok-array.array (named c.new_array.new.self) none c.in_ok-array.ensures.does

pub loop-place-init : goal.loop-place-init
loop-place-init t c =
    let some : 0 < length (take (length c.args.dimensions.now - 1) (drop 1 c.args.dimensions.now)) = grind (arith, common_steps, c.is_empty.ensures, c.if-is_empty.false) in
    making_begins c.args.isolate.now (slice_index_or c.args.dimensions.now 0 (record { row = 0; count = 0 })) c.args.dimensions.now (take (length c.args.dimensions.now - 1) (drop 1 c.args.dimensions.now))
    (cut c.args.dimensions.now (record { row = 0; count = 0 }) (omega (arith, c.in-len1-up.len_at_least))) c.new_array.new.self c.in_ok-array.array some c.in_ok-array.ensures.does c.requires c.in_ok-array.ensures.links c.in_ok-array.ensures.grows

pub returns-in_err-item-clause-does : goal.returns-in_err-item-clause-does
returns-in_err-item-clause-does t c =
    let p = err_from_is_err_and c.from_residual-in_err-item.result c.from_residual-in_err-item.ensures.1 in
    rw (p.1, p.2)
    (making_fails c.args.isolate.now c.loop-place.isolate c.args.dimensions.now (take (length c.args.dimensions.now - 1) (drop 1 c.args.dimensions.now)) c.in_ok-array.array (slice_index_or c.args.dimensions.now 0 (record { row = 0; count = 0 })).count c.loop-place.place c.loop-place-test.true c.loop-place.invariant c.in_err-item.field-0.0 c.in_err-item.ensures.does)

pub set_number-requires-clause-place : goal.set_number-requires-clause-place
set_number-requires-clause-place t c =
    let has : HasItems (slice_index_or c.args.dimensions.now 0 (record { row = 0; count = 0 })).count (named c.arrays_made.new.isolate) c.in_ok-array.array =
    making_has c.args.isolate.now c.loop-place.isolate c.args.dimensions.now (take (length c.args.dimensions.now - 1) (drop 1 c.args.dimensions.now)) c.in_ok-array.array (slice_index_or c.args.dimensions.now 0 (record { row = 0; count = 0 })).count c.loop-place.place c.loop-place-test.true c.loop-place.invariant c.in_ok-item.item c.arrays_made.new.isolate c.in_ok-item.ensures.does in
    omega (arith, has.size, c.loop-place-test.true)

pub set_number-requires-clause-sort : goal.set_number-requires-clause-sort
set_number-requires-clause-sort t c =
    let has : HasItems (slice_index_or c.args.dimensions.now 0 (record { row = 0; count = 0 })).count (named c.arrays_made.new.isolate) c.in_ok-array.array =
    making_has c.args.isolate.now c.loop-place.isolate c.args.dimensions.now (take (length c.args.dimensions.now - 1) (drop 1 c.args.dimensions.now)) c.in_ok-array.array (slice_index_or c.args.dimensions.now 0 (record { row = 0; count = 0 })).count c.loop-place.place c.loop-place-test.true c.loop-place.invariant c.in_ok-item.item c.arrays_made.new.isolate c.in_ok-item.ensures.does in
    has.sort

pub loop-place-preserved : goal.loop-place-preserved
loop-place-preserved t c =
    making_more c.args.isolate.now c.loop-place.isolate c.args.dimensions.now (take (length c.args.dimensions.now - 1) (drop 1 c.args.dimensions.now)) c.in_ok-array.array (slice_index_or c.args.dimensions.now 0 (record { row = 0; count = 0 })).count c.loop-place.place c.loop-place-test.true c.loop-place.invariant
    c.in_ok-item.item c.bits_of.result c.arrays_made.new.isolate c.set_number.new.self c.in_ok-item.ensures.does c.bits_of.ensures c.set_number.ensures.named
    c.in_ok-item.ensures.links c.in_ok-item.ensures.grows c.set_number.ensures.links c.set_number.ensures.grows
