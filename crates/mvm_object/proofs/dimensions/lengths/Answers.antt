use Rattle.std.proofs.Common.{◌≡◌, ◌∙◌, ℕ, List, length, replicate, IfOk, ap, subst, arith}
use Rattle.std.proofs.lemmas.List.{length-replicate}
use Rattle.mvm_base.specs.declared.value.Kind.{Kind}
use Rattle.mvm_base.specs.declared.value.Kind.TheVariants.{Int}
use Rattle.mvm_current.specs.Arguments.{widths}
use Rattle.mvm_object.proofs.Lengths.{if_many_lengths, on_ok, widths_ints}
use Rattle.mvm_object.proofs.dimensions.lengths.Goals as goal

pub returns-clause-there : goal.returns-clause-there
returns-clause-there c =
    let same : c.as_slice.result.now ≡ replicate c.args.dims Int = c.as_slice.ensures.value ∙ (c.in_ok-kinds.ensures.items_if_clones_equal (λ y h. h) ∙ ap (λ (n : ℕ). replicate n Int) c.from.ensures) in
    let wide : widths c.as_slice.result.now ≡ c.args.dims = ap widths same ∙ widths_ints c.args.dims in
    on_ok c.counts_of.result _ (omega (arith, wide, c.in_ok-words.ensures.there))

pub returns-clause-many : goal.returns-clause-many
returns-clause-many c =
    let same : c.as_slice.result.now ≡ replicate c.args.dims Int = c.as_slice.ensures.value ∙ (c.in_ok-kinds.ensures.items_if_clones_equal (λ y h. h) ∙ ap (λ (n : ℕ). replicate n Int) c.from.ensures) in
    let many : length c.as_slice.result.now ≡ c.args.dims = ap (λ (x : List Kind). length x) same ∙ length-replicate c.args.dims Int in
    let read = rw c.as_slice-2.ensures at c.counts_of.ensures in
    subst (λ (k : ℕ). IfOk c.counts_of.result (λ counts. length counts ≡ k)) many
    (if_many_lengths c.counts_of.result c.as_slice.result.now c.args.stack.now.operands.slots c.in_ok-words.words read c.in_ok-words.ensures.answer)
