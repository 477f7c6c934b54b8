-- At the places that are told a method stands.
use Rattle.std.proofs.Common.{◌≡◌, ◌<◌, ℕ, ◌+◌, Bool, true, false, cond, List, [], ◌∷◌, ◌++◌, length, Option, Some, None, refl, ap, subst, ◌∙◌, append_assoc, length-append, arith}
use Rattle.mvm_layout.specs.declared.parts.Item.{Item}
use Rattle.mvm_layout.specs.declared.parts.Member.{Member}
use Rattle.mvm_layout.specs.declared.parts.Parts.{Parts}
use Rattle.mvm_set.specs.Members.{is_member, member_from, method_at}
use Rattle.mvm_set.specs.Names.{is_same}
use Rattle.mvm_set.specs.declared.found.Found.{Found}
use Rattle.mvm_set.specs.declared.own.OwnWalk.{OwnWalk}
use Rattle.mvm_select.specs.Told.{IsPlace, found_at, place_from, place_of}
use Rattle.mvm_select.proofs.Telling.{at_end}

member_within : (at : ℕ) (pool : List Item) (name desc : List ℕ) (members : List Member) (index : ℕ) → member_from at pool name desc members ≡ Some index → index < at + length members
member_within at pool name desc [] index e = absurd cc
member_within at pool name desc (member ∷ members) index e = by (is_member pool name desc member) e (member_within (at + 1) pool name desc members index)
  where
    by : (b : Bool) → cond b (Some at) (member_from (at + 1) pool name desc members) ≡ Some index → (member_from (at + 1) pool name desc members ≡ Some index → index < at + 1 + length members)
        → index < at + length (member ∷ members)
    by true e next = let q : at ≡ index = cc in omega (arith, q)
    by false e next = let h = next e in omega (arith, h)

method_within : (name desc : List ℕ) (base : Parts) (index : ℕ) → method_at name desc base ≡ Some index → index < length base.methods
unfolding method_at
method_within name desc base index e = let h = member_within 0 base.pool name desc base.methods index e in omega (arith, h)

at_place : (name desc : List ℕ) (before : List OwnWalk) (own : OwnWalk) (owns : List OwnWalk) (index : Option ℕ) (found : Found) → method_at name desc own.file ≡ index
    → found_at (length before) index ≡ Some found → IsPlace (before ++ own ∷ owns) found
at_place name desc before own owns (Some index) found m e =
    let q : record { holder = length before; index = index } ≡ found = cc in
    subst (IsPlace (before ++ own ∷ owns)) q (record { own = own; is_holder = at_end before own owns; is_within = method_within name desc own.file index m })
at_place name desc before own owns None found m e = absurd cc

place_within : (name desc : List ℕ) (base : Parts) (before walk : List OwnWalk) (found : Found) → place_from (length before) name desc walk base ≡ Some found → IsPlace (before ++ walk) found
place_within name desc base before [] found e = absurd cc
place_within name desc base before (own ∷ owns) found e = by (is_same own.file base) e (place_within name desc base (before ++ own ∷ []) owns found)
  where
    by : (b : Bool) → cond b (found_at (length before) (method_at name desc own.file)) (place_from (length before + 1) name desc owns base) ≡ Some found
        → (place_from (length (before ++ own ∷ [])) name desc owns base ≡ Some found → IsPlace ((before ++ own ∷ []) ++ owns) found) → IsPlace (before ++ own ∷ owns) found
    by true e next = at_place name desc before own owns (method_at name desc own.file) found refl e
    by false e next =
        subst (λ (zs : List OwnWalk). IsPlace zs found) (append_assoc before (own ∷ []) owns)
        (next (ap (λ (n : ℕ). place_from n name desc owns base) (length-append before (own ∷ [])) ∙ e))

pub place_is : (name desc : List ℕ) (base : Parts) (walk : List OwnWalk) (found : Found) → place_of name desc walk base ≡ Some found → IsPlace walk found
unfolding place_of
place_is name desc base walk found e = place_within name desc base [] walk found e
