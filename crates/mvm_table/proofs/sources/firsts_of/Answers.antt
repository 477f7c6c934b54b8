use Rattle.std.proofs.Common.{◌≡◌, ℕ, ◌+◌, ◌∷◌, ◌++◌, [], List, map, drop, sym, ap, ◌∙◌, append_assoc, arith}
use Rattle.std.proofs.lemmas.Grind.{common_steps}
use Rattle.mvm_table.specs.Sources.{place_from, or_zero, first_of}
use Rattle.mvm_table.specs.declared.source.SourceRow.{SourceRow}
use Rattle.mvm_table.proofs.sources.firsts_of.Goals as goal

pub loop-i-preserved : goal.loop-i-preserved
loop-i-preserved c =
    let sources = c.args.sources.now in
    let row = c.index-sources-i.result in
    let behind = drop (c.loop-i.i + 1) c.args.sources.now in
    let e : drop c.loop-i.i c.args.sources.now ≡ row ∷ behind = grind (arith, common_steps) in
    let text : c.as_slice.result.now ≡ row.bytes = c.as_slice.ensures ∙ ap (λ (one : SourceRow). one.bytes) (sym c.index-sources-i.is) in
    let first : c.place_in.result ≡ first_of sources row =
    c.place_in.ensures ∙ ap or_zero (c.in_ok-places.ensures c.as_slice.result.now ∙ ap (λ (bytes : List ℕ). place_from 0 bytes sources) text) in
    ap (λ (firsts : List ℕ). firsts ++ map (first_of sources) behind) c.in_ok-push.ensures.items
    ∙ append_assoc c.loop-i.firsts.items (c.place_in.result ∷ []) (map (first_of sources) behind)
    ∙ ap (λ (place : ℕ). c.loop-i.firsts.items ++ place ∷ map (first_of sources) behind) first
    ∙ ap (λ (rest : List SourceRow). c.loop-i.firsts.items ++ map (first_of sources) rest) (sym e)
    ∙ c.loop-i.invariant
