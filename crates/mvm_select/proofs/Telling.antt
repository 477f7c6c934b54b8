-- A method that stands in a class's walk is told by its places.
use Rattle.std.proofs.Common.{◌≡◌, ℕ, ◌+◌, Bool, true, false, cond, List, [], ◌∷◌, ◌++◌, length, Option, Some, None, Result, Ok, Err, refl, sym, ap, subst, ◌∙◌, ◌⊎◌, inl, inr, append_assoc, length-append}
use Rattle.std.specs.Prelude.{map, slice_get}
use Rattle.mvm_layout.specs.declared.parts.Parts.{Parts}
use Rattle.mvm_set.specs.ClassOf.{own_walk, class_of}
use Rattle.mvm_set.specs.Family.{Family, file, walk}
use Rattle.mvm_set.specs.Members.{method_at, flags_at, flags_in}
use Rattle.mvm_set.specs.Names.{is_same}
use Rattle.mvm_set.specs.declared.fault.LinkFault.{LinkFault}
use Rattle.mvm_set.specs.declared.found.Found.{Found}
use Rattle.mvm_set.specs.declared.own.OwnWalk.{OwnWalk}
use Rattle.mvm_select.specs.Families.{Stands, IsWhole}
use Rattle.mvm_select.specs.Meaning.{Tells}
use Rattle.mvm_select.specs.Methods.{Methods, is_there}
use Rattle.mvm_select.specs.Told.{place_from, found_at, place_of, or_fault, told}
use Rattle.mvm_select.proofs.Lists.{In}
use Rattle.mvm_select.proofs.Walks.{in_walk, walk_stands}

pub at_end : (before : List OwnWalk) (own : OwnWalk) (behind : List OwnWalk) → slice_get (before ++ own ∷ behind) (length before) ≡ Some own
at_end [] own behind = refl
at_end (other ∷ before) own behind = at_end before own behind

-- the first class of this name
record Placed (name desc : List ℕ) (base : Parts) (xs : List Family) (all : List OwnWalk) (found : Option Found) : Type 0 where
  at : ℕ
  item : Family
  is_in : In xs item
  is_found : found ≡ found_at at (method_at name desc (file item))
  is_there : slice_get all at ≡ Some (own_walk item)
  same : is_same (file item) base ≡ true

placed : (name desc : List ℕ) (base : Parts) (before : List OwnWalk) (xs : List Family) (x : Family) → In xs x → is_same (file x) base ≡ true
    → Placed name desc base xs (before ++ map own_walk xs) (place_from (length before) name desc (map own_walk xs) base)
unfolding own_walk
placed name desc base before [] x h e = absurd h
placed name desc base before (y ∷ ys) x h e = by (is_same (file y) base) refl (λ k. placed name desc base (before ++ own_walk y ∷ []) ys x k e) h
  where
    by : (b : Bool) → is_same (file y) base ≡ b
        → (In ys x → Placed name desc base ys ((before ++ own_walk y ∷ []) ++ map own_walk ys) (place_from (length (before ++ own_walk y ∷ [])) name desc (map own_walk ys) base))
        → (y ≡ x) ⊎ In ys x
        → Placed name desc base (y ∷ ys) (before ++ own_walk y ∷ map own_walk ys)
        (cond b (found_at (length before) (method_at name desc (file y))) (place_from (length before + 1) name desc (map own_walk ys) base))
    by true s next h = record { at = length before; item = y; is_in = inl refl; is_found = refl; is_there = at_end before (own_walk y) (map own_walk ys); same = s }
    by false s next (inl q) = absurd (let k = subst (λ (z : Family). is_same (file z) base ≡ true) (sym q) e in cc)
    by false s next (inr k) =
        let r = next k in
        record {
          at = r.at;
          item = r.item;
          is_in = inr r.is_in;
          is_found = ap (λ (n : ℕ). place_from n name desc (map own_walk ys) base) (sym (length-append before (own_walk y ∷ []))) ∙ r.is_found;
          is_there = ap (λ (zs : List OwnWalk). slice_get zs r.at) (sym (append_assoc before (own_walk y ∷ []) (map own_walk ys))) ∙ r.is_there;
          same = r.same;
        }

-- a method that is there has a place
index_of : (name desc : List ℕ) (base : Parts) → is_there (flags_at name desc base) ≡ true → (index : ℕ) × (method_at name desc base ≡ Some index)
unfolding flags_at
index_of name desc base e = by (method_at name desc base) e
  where
    by : (found : Option ℕ) → is_there (flags_in base.methods found) ≡ true → (index : ℕ) × (found ≡ Some index)
    by (Some index) e = (index, refl)
    by None e = absurd cc

-- the answer names a class of the walk that has the method, or it is a fault
abbrev pub Answers : Methods → Family → Result Parts LinkFault → Type 0
Answers flags class (Ok base) = (x : Family) × Stands class x × (file x ≡ base) × (is_there (flags base) ≡ true)
Answers flags class (Err fault) = Unit {0}

pub telling : (missing : LinkFault) (name desc : List ℕ) (set : ℕ) (class : Family) → IsWhole class → (answer : Result Parts LinkFault) → Answers (flags_at name desc) class answer
    → Tells name desc (class_of set class) answer (told missing name desc (class_of set class).walk answer)
unfolding class_of place_of own_walk
telling missing name desc set class whole (Err fault) h = refl
telling missing name desc set class whole (Ok base) h =
    let x = h.0 in
    let r = placed name desc base [] (walk class) x (in_walk class whole x h.1) (subst (λ (z : Parts). is_same (file x) z ≡ true) h.2 (whole.named x h.1)) in
    let is_x : r.item ≡ x = whole.alike r.item x (walk_stands class r.item r.is_in) h.1 (subst (λ (z : Parts). is_same (file r.item) z ≡ true) (sym h.2) r.same) in
    let is_base : file r.item ≡ base = ap file is_x ∙ h.2 in
    let i = index_of name desc base h.3 in (
      record { holder = r.at; index = i.0 },
      ap (or_fault missing) r.is_found ∙ ap (λ (z : Parts). or_fault missing (found_at r.at (method_at name desc z))) is_base ∙ ap (λ (index : Option ℕ). or_fault missing (found_at r.at index)) i.1,
      record {
        own = own_walk r.item;
        is_holder = r.is_there;
        is_file = is_base;
        is_index = i.1;
      },
    )
