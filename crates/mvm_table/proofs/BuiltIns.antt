-- The built-in classes stand on every shelf.
use Rattle.std.proofs.Common.{◌≡◌, ◌<◌, ◌↔◌, ℕ, suc, ◌+◌, ◌==◌, Bool, true, false, List, [], ◌∷◌, ◌++◌, length, slice_index_or, Option, Some, None, Ok, refl, sym, ap, subst, ◌∙◌, arith}
use Rattle.std.specs.Prelude.{IsSome, option_and_then, ◌||◌}
use Rattle.std.specs.Str.{bytes_eq}
use Rattle.std.proofs.lemmas.Slice.Eq.{bytes_eq-Decides}
use Rattle.mvm_layout.specs.declared.parts.Parts.{Parts}
use Rattle.mvm_builtin.specs.Classes.{builtin, builtin_at}
use Rattle.mvm_builtin.specs.Order.{place_of}
use Rattle.mvm_builtin.specs.declared.table.TheConstants.{CLASSES}
use Rattle.mvm_set.specs.Names.{own_name}
use Rattle.mvm_set.specs.ClassOf.{class_of}
use Rattle.mvm_set.specs.declared.class.Lineage.{Lineage}
use Rattle.mvm_table.specs.BuiltIn.{name_at, HasNames, AreShelvedAs, HasBuiltins}
use Rattle.mvm_table.specs.Contents.{Contents, Stay, stands, is_shelved}
use Rattle.mvm_table.specs.Files.{File, files_in}
use Rattle.mvm_table.specs.Load.{is_in, found, known, load, load_with}
use Rattle.mvm_table.specs.Loads.{class_in}
use Rattle.mvm_table.proofs.Again.{loaded_named}
use Rattle.mvm_table.proofs.Known.{file_named}
use Rattle.mvm_table.proofs.Shelving.{eq_is, apart, stands_so}
use Rattle.mvm_table.proofs.Standing.{family_of}
use Rattle.mvm_table.proofs.Weights.{is_in-old, is_in-new}

last_or_before : {A : Type 0} (m n : ℕ) → m < n + 1 → (m < n → A) → (m ≡ n → A) → A
last_or_before {A} m n w f g = by (m == n) refl
  where
    by : (b : Bool) → (m == n) ≡ b → A
    by true e = g (eq_is m n e)
    by false e = let d = apart m n e in f (omega (arith, w, d))

-- ---- the names

-- one name more among those of the places so far
pub names_more : (names : List (List ℕ)) (at : ℕ) (new : List ℕ) → Some new ≡ name_at at → ((place : ℕ) (name : List ℕ) → place < at → name_at place ≡ Some name → is_in names name ≡ true)
    → (place : ℕ) (name : List ℕ) → place < at + 1 → name_at place ≡ Some name → is_in (names ++ new ∷ []) name ≡ true
names_more names at new e h place name w n = last_or_before place at w before here
  where
    before : place < at → is_in (names ++ new ∷ []) name ≡ true
    before l = is_in-old names new name (h place name l n)

    here : place ≡ at → is_in (names ++ new ∷ []) name ≡ true
    here s = let q : Some new ≡ Some name = e ∙ sym (ap name_at s) ∙ n in let same : new ≡ name = cc in subst (λ (x : List ℕ). is_in (names ++ new ∷ []) x ≡ true) same (is_in-new names new)

-- the names of all places are those of all built-in classes
pub has_names : (names : List (List ℕ)) → ((place : ℕ) → IsSome (builtin_at place) ↔ (place < CLASSES)) → ((name : List ℕ) → builtin name ≡ builtin_at (place_of name))
    → ((name : List ℕ) (file : Parts) → builtin name ≡ Some file → own_name file ≡ Some name)
    → ((place : ℕ) (name : List ℕ) → place < CLASSES → name_at place ≡ Some name → is_in names name ≡ true) → HasNames names
has_names names count placed named h name b = by (builtin name) refl b
  where
    by : (o : Option Parts) → builtin name ≡ o → IsSome o → is_in names name ≡ true
    by (Some file) e s =
        let at : builtin_at (place_of name) ≡ Some file = sym (placed name) ∙ e in
        h (place_of name) name ((count (place_of name)).0 (subst (λ (o : Option Parts). IsSome o) (sym at) s)) (ap (option_and_then own_name) at ∙ named name file e)
    by None e s = absurd cc

-- ---- their classes

-- the class of a name is called by it, and is one of its set
pub class_named : (table : List (List File)) (set : ℕ) (name : List ℕ) (class : Lineage) → class_in table set name ≡ Ok class → (set ≡ class.set) × (own_name class.file ≡ Some name)
unfolding load_with class_of
class_named table set name class e =
    let files = files_in set table in
    let f = family_of set (load files name) class e in (
      ap (λ (c : Lineage). c.set) f.2,
      ap (λ (c : Lineage). own_name c.file) (sym f.2) ∙ loaded_named (found files) (file_named files) (length (known files) + 1) [] name f.0 f.1,
    )

-- what stands on the shelf of its set stands there under its name
pub stands_named : (table : Contents) (files : List (List File)) (set : ℕ) (name : List ℕ) (class : Lineage) → class_in files set name ≡ Ok class → stands table class ≡ true → is_shelved table set name ≡ true
stands_named table files set name class e s =
    let n = class_named files set name class e in
    ap (λ (k : ℕ). is_shelved table k name) n.0 ∙ sym (stands_so table class name n.1) ∙ s

-- each of these names stands, where each place of them does
pub all_shelved : (table : Contents) (set : ℕ) (names : List (List ℕ)) → ((k : ℕ) (d : List ℕ) → k < length names → is_shelved table set (slice_index_or names k d) ≡ true) → AreShelvedAs table set names
all_shelved table set [] h name i = absurd cc
all_shelved table set (x ∷ names) h name i = by (bytes_eq x name) refl i (all_shelved table set names (λ n d w. h (suc n) d (omega (arith, w))) name)
  where
    by : (b : Bool) → bytes_eq x name ≡ b → (b || is_in names name) ≡ true → (is_in names name ≡ true → is_shelved table set name ≡ true) → is_shelved table set name ≡ true
    by true e k rest = let same : x ≡ name = (bytes_eq-Decides x name).0 e in subst (λ (y : List ℕ). is_shelved table set y ≡ true) same (h 0 x (omega arith))
    by false e k rest = rest k

-- one set more has them
pub sets_more : (old new : Contents) (at : ℕ) (names : List (List ℕ)) → Stay old new → HasNames names → AreShelvedAs new at names → ((set : ℕ) → set < at → HasBuiltins old set) → (set : ℕ) → set < at + 1 → HasBuiltins new set
sets_more old new at names st n a h set w name b = last_or_before set at w before here
  where
    before : set < at → is_shelved new set name ≡ true
    before l = st set name (h set l name b)

    here : set ≡ at → is_shelved new set name ≡ true
    here s = subst (λ (k : ℕ). is_shelved new k name ≡ true) (sym s) (a name (n name b))
