use Rattle.std.proofs.Common.{◌≡◌, ◌<◌, ◌-◌, ℕ, suc, true, false, refl, sym, arith, subst, length}
use Rattle.mvm_heap.proofs.Chains.{Searched, search_begins, search_goes, found_none, found_some}
use Rattle.mvm_heap.proofs.index.find.Goals as goal

pub loop-place-init : goal.loop-place-init
loop-place-init c =
    rw c.bucket_of.ensures.bucket (search_begins _ _ _ _ c.requires (subst (λ (n : ℕ). n < length c.args.heads.now) c.bucket_of.ensures.bucket c.bucket_of.ensures.within))

pub returns-then-has_units-clause-number : goal.returns-then-has_units-clause-number
returns-then-has_units-clause-number c =
    let e : c.loop-place.place ≡ suc (c.loop-place.place - 1) = omega (arith, c.loop-place-test.true) in
    let s : Searched c.args.store.now.objects c.args.entries.now (length c.args.heads.now) c.args.units.now (suc (c.loop-place.place - 1)) = subst (λ (n : ℕ). Searched c.args.store.now.objects c.args.entries.now (length c.args.heads.now) c.args.units.now n) e c.loop-place.invariant in
    sym (found_some _ _ _ (c.loop-place.place - 1) (omega (arith, s.within)) (c.if-has_units.ensures.0 refl) s.none)

pub loop-place-preserved : goal.loop-place-preserved
loop-place-preserved c =
    let e : c.loop-place.place ≡ suc (c.loop-place.place - 1) = omega (arith, c.loop-place-test.true) in
    let s : Searched c.args.store.now.objects c.args.entries.now (length c.args.heads.now) c.args.units.now (suc (c.loop-place.place - 1)) = subst (λ (n : ℕ). Searched c.args.store.now.objects c.args.entries.now (length c.args.heads.now) c.args.units.now n) e c.loop-place.invariant in
    search_goes _ _ _ _ (c.loop-place.place - 1) c.requires s (λ q. let h : false ≡ true = c.if-has_units.ensures.1 q in absurd cc)

pub returns-clause-number : goal.returns-clause-number
returns-clause-number c = sym (found_none _ _ _ (λ k h. c.loop-place.invariant.none k (omega arith) h))
