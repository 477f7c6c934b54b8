-- The first member of a name and descriptor, and members that stand apart by these: the one of a place is the first.
use Rattle.std.proofs.Common.{◌≡◌, ℕ, zero, suc, ◌+◌, ◌-◌, ◌<◌, ◌≤◌, List, [], ◌∷◌, length, Bool, true, false, cond, ◌&&◌, Option, Some, None, refl, sym, ap, subst, ◌∙◌, arith}
use Rattle.std.specs.Prelude.{slice_get}
use Rattle.std.proofs.lemmas.Bool.{and_parts}
use Rattle.std.proofs.lemmas.Option.{slice_get_within, get_or_from_slice_get}
use Rattle.mvm_classfile.specs.Kept.{AreApart, IsAlike}
use Rattle.mvm_layout.specs.Pool.{text, is_text}
use Rattle.mvm_layout.specs.declared.parts.Item.{Item}
use Rattle.mvm_layout.specs.declared.parts.Member.{Member}
use Rattle.mvm_layout.specs.declared.parts.Parts.{Parts}
use Rattle.mvm_mirror.proofs.Numbers.{named, is_called_so}
use Rattle.mvm_set.specs.Members.{is_member, member_from, method_at}
use Rattle.mvm_member.specs.Members.{member_at, method_declared}

module _ (pool : List Item) (name desc : List ℕ) where
  texts : (m : Member) → is_member pool name desc m ≡ true → (text pool m.name ≡ Some name) × (text pool m.desc ≡ Some desc)
  texts m e =
      let both = and_parts (is_text name (text pool m.name)) (is_text desc (text pool m.desc)) e in
      (named name (text pool m.name) both.0, named desc (text pool m.desc) both.1)

  alike : (m n : Member) → is_member pool name desc m ≡ true → is_member pool name desc n ≡ true → IsAlike pool m n
  alike m n e f = let x = texts m e in let y = texts n f in (x.0 ∙ sym y.0, x.1 ∙ sym y.1)

  -- the member of a place is behind none that is like it
  others : (m : Member) (ms : List Member) (k : ℕ) (other : Member) → AreApart pool (m ∷ ms) → slice_get ms k ≡ Some other → IsAlike pool m other → ⊥
  others m ms k other apart g =
      let within : k < length ms = slice_get_within ms k other g in
      subst (λ (x : Member). IsAlike pool m x → ⊥) (get_or_from_slice_get ms k other m g) (apart 0 (suc k) m (omega arith) (omega arith))

  -- the one of a place is the first, counted on from a place
  here : (at k : ℕ) (ms : List Member) (member : Member) → AreApart pool ms → slice_get ms k ≡ Some member → is_member pool name desc member ≡ true → member_from at pool name desc ms ≡ Some (at + k)
  here at k [] member apart g e = absurd cc
  here at zero (m ∷ ms) member apart g e =
      let is : m ≡ member = cc in
      ap (λ (b : Bool). cond b (Some at) (member_from (at + 1) pool name desc ms)) (ap (is_member pool name desc) is ∙ e) ∙ ap (λ (i : ℕ). Some i) (omega arith)
  here at (suc k) (m ∷ ms) member apart g e =
      by (is_member pool name desc m) refl (here (at + 1) k ms member (λ i j d below within. apart (suc i) (suc j) d (omega arith) (omega arith)) g e)
    where
      by : (b : Bool) → is_member pool name desc m ≡ b → member_from (at + 1) pool name desc ms ≡ Some (at + 1 + k) → cond b (Some at) (member_from (at + 1) pool name desc ms) ≡ Some (at + suc k)
      by true h later = absurd (others m ms k member apart g (alike m member h e))
      by false h later = later ∙ ap (λ (i : ℕ). Some i) (omega arith)

  pub first_here : (members : List Member) (at : ℕ) (member : Member) → AreApart pool members → slice_get members at ≡ Some member → is_member pool name desc member ≡ true → member_from 0 pool name desc members ≡ Some at
  first_here members at member apart g e = here 0 at members member apart g e ∙ ap (λ (i : ℕ). Some i) (omega arith)

  -- the first stands among the members
  below : (at i : ℕ) (ms : List Member) → member_from at pool name desc ms ≡ Some i → i < at + length ms
  below at i [] e = absurd cc
  below at i (m ∷ ms) e = by (is_member pool name desc m) e (λ h. below (at + 1) i ms h)
    where
      by : (b : Bool) → cond b (Some at) (member_from (at + 1) pool name desc ms) ≡ Some i → (member_from (at + 1) pool name desc ms ≡ Some i → i < at + 1 + length ms) → i < at + suc (length ms)
      by true h later = let same : at ≡ i = cc in omega arith
      by false h later = let rest : i < at + 1 + length ms = later h in omega arith

  -- the first has the name and the descriptor
  has : (at i : ℕ) (ms : List Member) (member : Member) → member_from at pool name desc ms ≡ Some i → (at ≤ i) × (slice_get ms (i - at) ≡ Some member → is_member pool name desc member ≡ true)
  has at i [] member e = absurd cc
  has at i (m ∷ ms) member e = by (is_member pool name desc m) refl e (λ h. has (at + 1) i ms member h)
    where
      by : (b : Bool) → is_member pool name desc m ≡ b → cond b (Some at) (member_from (at + 1) pool name desc ms) ≡ Some i
          → (member_from (at + 1) pool name desc ms ≡ Some i → (at + 1 ≤ i) × (slice_get ms (i - (at + 1)) ≡ Some member → is_member pool name desc member ≡ true))
          → (at ≤ i) × (slice_get (m ∷ ms) (i - at) ≡ Some member → is_member pool name desc member ≡ true)
      by true t h later =
          let same : at ≡ i = cc in
          let none : i - at ≡ 0 = omega arith in
          (omega arith, λ g. let is : m ≡ member = (let front : slice_get (m ∷ ms) 0 ≡ Some member = subst (λ (k : ℕ). slice_get (m ∷ ms) k ≡ Some member) none g in cc) in ap (is_member pool name desc) (sym is) ∙ t)
      by false t h later =
          let rest = later h in
          let start : at + 1 ≤ i = rest.0 in
          let one : i - at ≡ suc (i - (at + 1)) = omega arith in
          (omega arith, λ g. rest.1 (subst (λ (k : ℕ). slice_get (m ∷ ms) k ≡ Some member) one g))

pub method_within : (name desc : List ℕ) (file : Parts) (place : ℕ) → method_at name desc file ≡ Some place → place < length file.methods
unfolding method_at
method_within name desc file place e = omega (arith, below file.pool name desc 0 place file.methods e)

pub method_here : (name desc : List ℕ) (file : Parts) (place : ℕ) (method : Member) → AreApart file.pool file.methods → slice_get file.methods place ≡ Some method
    → text file.pool method.name ≡ Some name → text file.pool method.desc ≡ Some desc → method_at name desc file ≡ Some place
unfolding method_at
method_here name desc file place method apart g n d =
    let called : is_text name (text file.pool method.name) ≡ true = is_called_so name (text file.pool method.name) n in
    let described : is_text desc (text file.pool method.desc) ≡ true = is_called_so desc (text file.pool method.desc) d in
    first_here file.pool name desc file.methods place method apart g (ap (λ (b : Bool). b && is_text desc (text file.pool method.desc)) called ∙ described)

pub declared_at : (name desc : List ℕ) (file : Parts) (place : ℕ) → method_at name desc file ≡ Some place → method_declared name desc file ≡ slice_get file.methods place
unfolding method_declared
declared_at name desc file place e = ap (member_at file.methods) e

pub declared_named : (name desc : List ℕ) (file : Parts) (method : Member) → method_declared name desc file ≡ Some method → (text file.pool method.name ≡ Some name) × (text file.pool method.desc ≡ Some desc)
unfolding method_declared method_at
declared_named name desc file method e = by (member_from 0 file.pool name desc file.methods) refl e
  where
    by : (found : Option ℕ) → member_from 0 file.pool name desc file.methods ≡ found → member_at file.methods found ≡ Some method → (text file.pool method.name ≡ Some name) × (text file.pool method.desc ≡ Some desc)
    by None f g = absurd cc
    by (Some i) f g =
        let all : i ≡ i - 0 = omega arith in
        texts file.pool name desc method ((has file.pool name desc 0 i file.methods method f).1 (subst (λ (k : ℕ). slice_get file.methods k ≡ Some method) all g))
