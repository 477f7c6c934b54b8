use Rattle.std.proofs.Common.{◌<◌, ◌∙◌, length, sym, arith, refl, below_more}
use Rattle.std.proofs.lemmas.List.{length-map}
use Rattle.mvm_region.specs.Words.{Words}
use Rattle.mvm_region.proofs.Without.{first_removed, none_removed, none_there, length_at}
use Rattle.mvm_region.proofs.pool.place_of.Goals as goal

pub returns-then-size-words-clause-found : goal.returns-then-size-words-clause-found
returns-then-size-words-clause-found c =
    let h : c.loop-place.place < length c.args.kept.now = omega arith in
    (h, first_removed c.args.kept.now c.args.words c.loop-place.place h (length_at _ _ _ c.index-kept-place.result c.index-kept-place.is (sym c.if-size-words.true ∙ c.size.ensures) h) c.loop-place.invariant)

pub loop-place-preserved : goal.loop-place-preserved
loop-place-preserved c =
    let h : c.loop-place.place < length c.args.kept.now = omega arith in
    below_more _ _ c.loop-place.invariant (λ e. c.if-size-words.false (c.size.ensures ∙ sym (length_at _ _ _ c.index-kept-place.result c.index-kept-place.is refl h) ∙ e))

pub returns-clause-none : goal.returns-clause-none
returns-clause-none c = none_there _ _ (λ k h. c.loop-place.invariant k (omega (arith, h, length-map c.args.kept.now (λ (w : Words). length w.words))))

pub returns-clause-same : goal.returns-clause-same
returns-clause-same c = none_removed _ _ (λ k h. c.loop-place.invariant k (omega (arith, h, length-map c.args.kept.now (λ (w : Words). length w.words))))
