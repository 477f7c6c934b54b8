use Rattle.std.proofs.Common.{◌≡◌, ℕ, ◌+◌, ◌-◌, ◌∷◌, List, Some, drop, cond, sym, ap, ◌∙◌, arith}
use Rattle.std.specs.Str.{bytes_eq}
use Rattle.std.proofs.lemmas.Grind.{common_steps}
use Rattle.mvm_set.specs.Set.{look}
use Rattle.mvm_set.proofs.Sources.{source_added}
use Rattle.mvm_table.specs.Sources.{place_from}
use Rattle.mvm_table.specs.declared.source.SourceRow.{SourceRow}
use Rattle.mvm_table.proofs.sources.places_of.Goals as goal

pub loop-i-preserved : goal.loop-i-preserved
loop-i-preserved c =
    let place = c.loop-i.i - 1 in
    let row = c.index-sources-i.result in
    let rest = drop c.loop-i.i c.args.sources.now in
    let e : drop (c.loop-i.i - 1) c.args.sources.now ≡ row ∷ rest = grind (arith, common_steps) in
    let next : c.loop-i.i ≡ c.loop-i.i - 1 + 1 = omega (arith, c.loop-i-test.true) in
    let text : c.as_slice.result.now ≡ row.bytes = c.as_slice.ensures ∙ ap (λ (one : SourceRow). one.bytes) (sym c.index-sources-i.is) in
    λ bytes.
    source_added (λ key. key.now) c.loop-i.places c.insert.new.self c.as_slice.result (Some place) c.in_ok-insert.ensures.updates bytes
    ∙ ap (λ (text : List ℕ). cond (bytes_eq text bytes) (Some place) (look c.loop-i.places (λ key. key.now) bytes)) text
    ∙ ap (cond (bytes_eq row.bytes bytes) (Some place)) (c.loop-i.invariant bytes ∙ ap (λ (n : ℕ). place_from n bytes rest) next)
    ∙ ap (place_from place bytes) (sym e)
