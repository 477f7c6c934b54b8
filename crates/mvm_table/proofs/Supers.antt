-- One class that is begun, and its supers one after the other.
use Rattle.std.proofs.Common.{◌≡◌, ◌≢◌, ℕ, zero, suc, ◌+◌, Bool, true, false, List, [], ◌∷◌, ◌++◌, drop, Option, Some, None, Result, Ok, Err, refl, sym, ap, ◌∙◌, inl, inr, arith}
use Rattle.std.specs.Prelude.{slice_get, ◌||◌, MatchBool}
use Rattle.std.specs.Option.{option_map}
use Rattle.std.specs.Str.{bytes_eq}
use Rattle.std.proofs.lemmas.List.{append-nil}
use Rattle.std.proofs.lemmas.Slice.Eq.{bytes_eq-Decides}
use Rattle.mvm_base.specs.Answers.{◌>>=◌}
use Rattle.mvm_layout.specs.Pool.{class_name}
use Rattle.mvm_layout.specs.declared.parts.Item.{Item}
use Rattle.mvm_layout.specs.declared.parts.Parts.{Parts}
use Rattle.mvm_set.specs.Names.{names_at, with_name}
use Rattle.mvm_set.specs.Over.{class_over}
use Rattle.mvm_set.specs.declared.class.Lineage.{Lineage}
use Rattle.mvm_table.specs.Load.{is_in}
use Rattle.mvm_table.specs.Cost.{IsSuper}
use Rattle.mvm_table.specs.Begun.{Load, class_loaded, classes_loaded, class_by, super_at, is_interface_place, across_from, left_from, left_of, taken_at, taken, begun_of, listed}
use Rattle.mvm_table.specs.declared.begun.Begun.{Begun}
use Rattle.mvm_table.specs.declared.fault.LoadFault.{LoadFault}

-- ---- what an index names

drop_next : {X : Type 0} (xs : List X) (i : ℕ) (x : X) → slice_get xs i ≡ Some x → drop i xs ≡ x ∷ drop (suc i) xs
drop_next [] i x e = absurd cc
drop_next (y ∷ xs) zero x e = let s : y ≡ x = cc in ap (λ z. z ∷ xs) s
drop_next (y ∷ xs) (suc i) x e = drop_next xs i x e

drop_end : {X : Type 0} (xs : List X) (i : ℕ) → slice_get xs i ≡ None → drop i xs ≡ []
drop_end [] zero e = refl
drop_end [] (suc i) e = refl
drop_end (y ∷ xs) zero e = absurd cc
drop_end (y ∷ xs) (suc i) e = drop_end xs i e

-- an index that stands at a place, and what it names
pub record IsIndex (file : Parts) (at : ℕ) (found : Option (List ℕ)) : Type 0 where
  pub index : ℕ
  pub stands : slice_get file.interfaces at ≡ Some index
  pub names : class_name file.pool index ≡ found

index_is : (file : Parts) (at : ℕ) (found : Option (List ℕ)) → option_map (class_name file.pool) (slice_get file.interfaces at) ≡ Some found → IsIndex file at found
index_is file at found e = by (slice_get file.interfaces at) refl e
  where
    by : (o : Option ℕ) → slice_get file.interfaces at ≡ o → option_map (class_name file.pool) o ≡ Some found → IsIndex file at found
    by (Some index) s e = record { index = index; stands = s; names = cc }
    by None s e = absurd cc

no_index : (file : Parts) (at : ℕ) → option_map (class_name file.pool) (slice_get file.interfaces at) ≡ None → slice_get file.interfaces at ≡ None
no_index file at e = by (slice_get file.interfaces at) refl e
  where
    by : (o : Option ℕ) → slice_get file.interfaces at ≡ o → option_map (class_name file.pool) o ≡ None → slice_get file.interfaces at ≡ None
    by (Some index) s e = absurd cc
    by None s e = s

-- the names from a place on
names_from : (file : Parts) (at : ℕ) (found : Option (List ℕ)) → IsIndex file at found
    → names_at file.pool (drop at file.interfaces) ≡ with_name found (names_at file.pool (drop (suc at) file.interfaces))
names_from file at found i =
    ap (names_at file.pool) (drop_next file.interfaces at i.index i.stands)
    ∙ ap (λ (o : Option (List ℕ)). with_name o (names_at file.pool (drop (suc at) file.interfaces))) i.names

-- ---- one super more

-- the class that stands for what an index names: none where it names none
abbrev pub Given : Load → Bool → List ℕ → Option (List ℕ) → Option Lineage → Type 0
Given load sort name None None = Unit {0}
Given load sort name (Some super) (Some class) = class_loaded load sort name super ≡ Ok class
Given load sort name None (Some class) = ⊥
Given load sort name (Some super) None = ⊥

abbrev over_others : Lineage → Result (List Lineage) LoadFault → Result (List Lineage) LoadFault
over_others class r = r >>= λ others. Ok (class ∷ others)

next_loaded : (load : Load) (sort : Bool) (name : List ℕ) (supers : List (List ℕ)) (found : Option (List ℕ)) (class : Option Lineage) → Given load sort name found class
    → classes_loaded load sort name (with_name found supers) ≡ (classes_loaded load sort name supers >>= λ others. Ok (listed class ++ others))
next_loaded load sort name supers None None g = by (classes_loaded load sort name supers)
  where
    by : (r : Result (List Lineage) LoadFault) → r ≡ (r >>= λ others. Ok others)
    by (Ok others) = refl
    by (Err fault) = refl
next_loaded load sort name supers (Some super) (Some class) g =
    ap (λ (r : Result Lineage LoadFault). r >>= λ one. classes_loaded load sort name supers >>= λ others. Ok (one ∷ others)) g
next_loaded load sort name supers None (Some class) g = absurd g
next_loaded load sort name supers (Some super) None g = absurd g

append_listed : (xs : List Lineage) (class : Option Lineage) (ys : List Lineage) → (xs ++ listed class) ++ ys ≡ xs ++ (listed class ++ ys)
append_listed [] class ys = refl
append_listed (x ∷ xs) class ys = ap (λ (zs : List Lineage). x ∷ zs) (append_listed xs class ys)

module _ (set : ℕ) (load : Load) where
  abbrev done : Parts → List Lineage → List Lineage → Result Lineage LoadFault
  done file above across = Ok (class_over set file above across)

  moved_on : (file : Parts) (above before : List Lineage) (class : Option Lineage) (r : Result (List Lineage) LoadFault)
      → (r >>= λ others. done file above ((before ++ listed class) ++ others)) ≡ ((r >>= λ others. Ok (listed class ++ others)) >>= λ others. done file above (before ++ others))
  moved_on file above before class (Ok others) = ap (done file above) (append_listed before class others)
  moved_on file above before class (Err fault) = refl

  -- a class with one super more has as its rest what it had
  pub taken_left : (begun : Begun) (found : Option (List ℕ)) (class : Option Lineage) → super_at begun.file begun.next ≡ Some found → Given load (is_interface_place begun.next) begun.name found class
      → left_of set load (taken begun class) ≡ left_of set load begun
  unfolding left_of taken
  taken_left begun found class s g = by begun.next s g
    where
      some_is : (o : Option (List ℕ)) → Some o ≡ Some found → o ≡ found
      some_is o e = cc

      by : (next : ℕ) → super_at begun.file next ≡ Some found → Given load (is_interface_place next) begun.name found class
          → left_from set load (taken_at next begun class) (taken_at next begun class).next ≡ left_from set load begun next
      by zero s g =
          let n : class_name begun.file.pool begun.file.super_class ≡ found = some_is (class_name begun.file.pool begun.file.super_class) s in
          sym (ap (λ (r : Result (List Lineage) LoadFault). r >>= λ above. across_from set load begun above 0)
          (ap (λ (o : Option (List ℕ)). classes_loaded load false begun.name (with_name o [])) n ∙ next_loaded load false begun.name [] found class g)
          ∙ last)
        where
          nothing : (c : Option Lineage) → listed c ++ [] ≡ listed c
          nothing (Some c) = refl
          nothing None = refl

          last : across_from set load begun (listed class ++ []) 0 ≡ across_from set load begun (listed class) 0
          last = ap (λ (above : List Lineage). across_from set load begun above 0) (nothing class)
      by (suc at) s g =
          let i = index_is begun.file at found s in
          let rest = classes_loaded load true begun.name (names_at begun.file.pool (drop (suc at) begun.file.interfaces)) in
          moved_on begun.file (listed begun.above) begun.across class rest
          ∙ ap (λ (r : Result (List Lineage) LoadFault). r >>= λ others. done begun.file (listed begun.above) (begun.across ++ others))
          (sym (ap (classes_loaded load true begun.name) (names_from begun.file at found i)
          ∙ next_loaded load true begun.name (names_at begun.file.pool (drop (suc at) begun.file.interfaces)) found class g))

  -- behind the last index the class is there
  pub ended_left : (begun : Begun) → super_at begun.file begun.next ≡ None → left_of set load begun ≡ Ok (class_over set begun.file (listed begun.above) begun.across)
  unfolding left_of
  ended_left begun s = by begun.next s
    where
      by : (next : ℕ) → super_at begun.file next ≡ None → left_from set load begun next ≡ Ok (class_over set begun.file (listed begun.above) begun.across)
      by zero s = absurd cc
      by (suc at) s =
          ap (λ (indices : List ℕ). classes_loaded load true begun.name (names_at begun.file.pool indices) >>= λ others. done begun.file (listed begun.above) (begun.across ++ others))
          (drop_end begun.file.interfaces at (no_index begun.file at s))
          ∙ ap (done begun.file (listed begun.above)) (append-nil begun.across)

  -- a super that is not to be had
  pub faulty_left : (begun : Begun) (super : List ℕ) (fault : LoadFault) → super_at begun.file begun.next ≡ Some (Some super) → class_loaded load (is_interface_place begun.next) begun.name super ≡ Err fault
      → left_of set load begun ≡ Err fault
  unfolding left_of
  faulty_left begun super fault s f = by begun.next s f
    where
      some_is : (o : Option (List ℕ)) → Some o ≡ Some (Some super) → o ≡ Some super
      some_is o e = cc

      by : (next : ℕ) → super_at begun.file next ≡ Some (Some super) → class_loaded load (is_interface_place next) begun.name super ≡ Err fault → left_from set load begun next ≡ Err fault
      by zero s f =
          ap (λ (o : Option (List ℕ)). classes_loaded load false begun.name (with_name o []) >>= λ above. across_from set load begun above 0) (some_is (class_name begun.file.pool begun.file.super_class) s)
          ∙ ap (λ (r : Result Lineage LoadFault). (r >>= λ class. Ok (class ∷ [])) >>= λ above. across_from set load begun above 0) f
      by (suc at) s f =
          let i = index_is begun.file at (Some super) s in
          let rest = names_at begun.file.pool (drop (suc at) begun.file.interfaces) in
          ap (λ (names : List (List ℕ)). classes_loaded load true begun.name names >>= λ others. done begun.file (listed begun.above) (begun.across ++ others)) (names_from begun.file at (Some super) i)
          ∙ ap (λ (r : Result Lineage LoadFault). (r >>= λ class. classes_loaded load true begun.name rest >>= λ others. Ok (class ∷ others)) >>= λ others. done begun.file (listed begun.above) (begun.across ++ others)) f

  -- of a class of which nothing is done all is left
  pub all_left : (name : List ℕ) (file : Parts) → class_by set load name file ≡ left_of set load (begun_of name file)
  unfolding left_of class_by
  all_left name file = refl

-- ---- one super more, by the number of those before

pub taken_first : (begun : Begun) (class : Option Lineage) → begun.next ≡ 0 → taken begun class ≡ record { name = begun.name; file = begun.file; above = class; across = begun.across; next = 1 }
unfolding taken
taken_first begun class e = ap (λ (n : ℕ). taken_at n begun class) e

next_of : ℕ → Begun → Option Lineage → Begun
next_of n begun class = record { name = begun.name; file = begun.file; above = begun.above; across = begun.across ++ listed class; next = n }

pub taken_later : (begun : Begun) (class : Option Lineage) → begun.next ≢ 0
    → taken begun class ≡ record { name = begun.name; file = begun.file; above = begun.above; across = begun.across ++ listed class; next = begun.next + 1 }
unfolding taken next_of
taken_later begun class h = by begun.next h
  where
    by : (n : ℕ) → n ≢ 0 → taken_at n begun class ≡ next_of (n + 1) begun class
    by zero h = absurd (h refl)
    by (suc at) h = let e : suc (suc at) ≡ suc at + 1 = omega arith in ap (λ (n : ℕ). next_of n begun class) e

pub place_sort : (next : ℕ) (b : Bool) → MatchBool b (next ≢ 0) (next ≡ 0) → b ≡ is_interface_place next
place_sort zero true h = absurd (h refl)
place_sort zero false h = refl
place_sort (suc at) true h = refl
place_sort (suc at) false h = absurd (omega (arith, h))

-- ---- a super of a file

is_in_with : (o : Option (List ℕ)) (names : List (List ℕ)) (name : List ℕ) → is_in names name ≡ true → is_in (with_name o names) name ≡ true
is_in_with None names name e = e
is_in_with (Some other) names name e = by (bytes_eq other name)
  where
    by : (b : Bool) → (b || is_in names name) ≡ true
    by true = refl
    by false = e

here : (super : List ℕ) (names : List (List ℕ)) → is_in (super ∷ names) super ≡ true
here super names = ap (λ (b : Bool). b || is_in names super) ((bytes_eq-Decides super super).1 refl)

in_names : (pool : List Item) (indices : List ℕ) (at index : ℕ) (super : List ℕ) → slice_get indices at ≡ Some index → class_name pool index ≡ Some super → is_in (names_at pool indices) super ≡ true
in_names pool [] at index super s n = absurd cc
in_names pool (other ∷ indices) zero index super s n =
    let same : other ≡ index = cc in
    ap (λ (o : Option (List ℕ)). is_in (with_name o (names_at pool indices)) super) (ap (class_name pool) same ∙ n) ∙ here super (names_at pool indices)
in_names pool (other ∷ indices) (suc at) index super s n = is_in_with (class_name pool other) (names_at pool indices) super (in_names pool indices at index super s n)

pub is_super : (file : Parts) (next : ℕ) (super : List ℕ) → super_at file next ≡ Some (Some super) → IsSuper file super
is_super file zero super s = inl (ap (λ (o : Option (List ℕ)). is_in (with_name o []) super) (some_is (class_name file.pool file.super_class) s) ∙ here super [])
  where
    some_is : (o : Option (List ℕ)) → Some o ≡ Some (Some super) → o ≡ Some super
    some_is o e = cc
is_super file (suc at) super s = let i = index_is file at (Some super) s in inr (in_names file.pool file.interfaces at i.index super i.stands i.names)
