use Rattle.std.proofs.Common.{◌≡◌, ℕ, ◌+◌, ◌-◌, ◌<◌, ◌∷◌, length, drop, sym, ap, subst, ◌∙◌, arith}
use Rattle.std.proofs.lemmas.Grind.{common_steps}
use Rattle.mvm_set.specs.Index.{HasNumbers, IsIndex}
use Rattle.mvm_set.specs.Members.{member_from}
use Rattle.mvm_set.specs.Set.{look}
use Rattle.mvm_set.proofs.Numbered.{one_more_place}
use Rattle.mvm_set.proofs.index.places_of.Goals as goal

pub loop-i-preserved : goal.loop-i-preserved
loop-i-preserved c =
    let at = c.loop-i.i - 1 in
    let member = c.index-members-i.result in
    let rest = drop c.loop-i.i c.args.members.now in
    let e : drop at c.args.members.now ≡ member ∷ rest = grind (arith, common_steps) in
    let f : c.loop-i.i ≡ at + 1 = omega (arith, c.loop-i-test.true) in
    let less : at < length c.args.members.now = omega (arith, c.loop-i-test.true, c.loop-i.auto.i) in
    let has : HasNumbers c.args.pool.now (look c.args.texts.now (λ key. key.items)) member =
    subst (HasNumbers c.args.pool.now (look c.args.texts.now (λ key. key.items))) (sym c.index-members-i.is) (c.requires.have at member less) in
    λ name desc.
    one_more_place c.args.pool.now (look c.args.texts.now (λ key. key.items)) c.requires.numbers c.loop-i.places c.add_place.new.places at member rest has
    (rw (← c.number_at-name.ensures, ← c.number_at-desc.ensures) c.in_ok-add_place.ensures)
    (subst (λ (n : ℕ). IsIndex n (look c.args.texts.now (λ key. key.items)) c.loop-i.places c.args.pool.now rest) f c.loop-i.invariant) name desc
    ∙ ap (member_from at c.args.pool.now name desc) (sym e)
