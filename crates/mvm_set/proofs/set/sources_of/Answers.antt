use Rattle.std.proofs.Common.{◌≡◌, ℕ, ◌-◌, ◌∷◌, List, Some, drop, cond, sym, ap, ◌∙◌, arith}
use Rattle.std.specs.Str.{bytes_eq}
use Rattle.std.proofs.lemmas.Grind.{common_steps}
use Rattle.mvm_set.specs.Set.{source_of, look}
use Rattle.mvm_set.proofs.Sources.{source_added}
use Rattle.mvm_set.proofs.set.sources_of.Goals as goal

pub loop-i-preserved : goal.loop-i-preserved
loop-i-preserved c =
    let row = c.index-rows-i.result in
    let rest = drop c.loop-i.i c.args.rows.now in
    let e : drop (c.loop-i.i - 1) c.args.rows.now ≡ row ∷ rest = grind (arith, common_steps) in
    let units : c.in_ok-units.units.items ≡ row.name = c.in_ok-units.ensures.items ∙ c.units.ensures in
    λ name.
    source_added (λ key. key.items) c.loop-i.sources c.insert.new.self c.in_ok-units.units (Some row.source) c.in_ok-insert.ensures.updates name
    ∙ ap (λ (text : List ℕ). cond (bytes_eq text name) (Some row.source) (look c.loop-i.sources (λ key. key.items) name)) units
    ∙ ap (cond (bytes_eq row.name name) (Some row.source)) (c.loop-i.invariant name)
    ∙ ap (source_of name) (sym e)
