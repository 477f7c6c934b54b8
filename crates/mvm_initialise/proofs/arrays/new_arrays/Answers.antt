use Rattle.std.proofs.Common.{◌≡◌, ◌<◌, length, arith}
use Rattle.std.proofs.lemmas.Grind.{common_steps}
use Rattle.std.proofs.lemmas.Result.{err_from_is_err_and}
use Rattle.mvm_isolate.specs.Numbered.{named}
use Rattle.mvm_initialise.proofs.Dimensions.{never_fails, no_lengths, sum_is, words_missing}
use Rattle.mvm_initialise.proofs.arrays.new_arrays.Goals as goal

pub returns-then-is_empty-clause-does : goal.returns-then-is_empty-clause-does
returns-then-is_empty-clause-does c = λ other.
    let none : length c.args.counts.now ≡ 0 = grind (arith, common_steps, c.is_empty.ensures, c.if-is_empty.true) in
    no_lengths c.args.shape.now c.args.counts.now (named c.args.isolate.now) none

pub returns-in_err-has_words-clause-does : goal.returns-in_err-has_words-clause-does
returns-in_err-has_words-clause-does c =
    let some : 0 < length c.args.counts.now = grind (arith, common_steps, c.is_empty.ensures, c.if-is_empty.false) in
    let sum = rw c.as_slice.ensures at c.array_words-sum.ensures in
    let p = err_from_is_err_and c.from_residual.result c.from_residual.ensures.1 in
    rw (p.1, p.2)
    (λ other. words_missing c.args.isolate.now c.dimensions_of.new.isolate c.args.shape.now c.args.counts.now c.in-Ok.dimensions c.in-Ok.ensures.are c.in-Ok.ensures.counts c.in-Ok.ensures.same some c.in_err-has_words.ensures.within c.in_err-has_words.field-0.0 (c.in_err-has_words.ensures.exact _ (sum_is c.args.isolate.now c.dimensions_of.new.isolate c.args.shape.now c.args.counts.now c.in-Ok.dimensions c.in-Ok.ensures.are c.in-Ok.ensures.counts c.in-Ok.ensures.same c.array_words-sum.result sum)))

pub unreachable-requires : goal.unreachable-requires
unreachable-requires c =
    let some : 0 < length c.args.counts.now = grind (arith, common_steps, c.is_empty.ensures, c.if-is_empty.false) in
    let sum = rw c.as_slice.ensures at c.array_words-sum.ensures in
    let made = rw c.as_slice-2.ensures at c.in-Err-arrays_made.ensures.does in
    never_fails c.args.isolate.now c.dimensions_of.new.isolate c.args.shape.now c.args.counts.now c.in-Ok.dimensions c.in-Ok.ensures.are c.in-Ok.ensures.counts c.in-Ok.ensures.same some c.in_ok-has_words.ensures.within c.in-Err-arrays_made.field-0 (c.in_ok-has_words.ensures.exact _ (sum_is c.args.isolate.now c.dimensions_of.new.isolate c.args.shape.now c.args.counts.now c.in-Ok.dimensions c.in-Ok.ensures.are c.in-Ok.ensures.counts c.in-Ok.ensures.same c.array_words-sum.result sum)) made
