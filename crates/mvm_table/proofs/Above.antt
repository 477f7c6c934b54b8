-- The names of what a class inherits from: each once, and with each its supers.
use Rattle.std.proofs.Common.{◌≡◌, ℕ, suc, ◌+◌, ◌<◌, ◌≤◌, Bool, true, false, cond, List, [], ◌∷◌, ◌++◌, length, Option, Some, None, Result, Ok, Err, refl, sym, ap, subst, ◌∙◌, arith, ◌⊎◌, inl, inr}
use Rattle.std.specs.Prelude.{IfOk, map, option_and_then, ◌||◌, not}
use Rattle.std.specs.List.{list_any, filter}
use Rattle.std.specs.Str.{bytes_eq}
use Rattle.std.proofs.lemmas.Slice.Eq.{bytes_eq-Decides}
use Rattle.mvm_base.specs.Answers.{AnswersUnless}
use Rattle.mvm_layout.specs.Pool.{is_text}
use Rattle.mvm_layout.specs.declared.parts.Parts.{Parts}
use Rattle.mvm_shape.specs.Members.{same_text}
use Rattle.mvm_set.specs.Access.{is_subclass}
use Rattle.mvm_set.specs.Names.{is_called, with_name, superclass, superinterfaces}
use Rattle.mvm_set.specs.Family.{Family, family, Families, none, more, file, name, Among, Inherits, from_class, from_interface, later, over_first, across_first, visited, all_visited, walk}
use Rattle.mvm_set.specs.Family as tree
use Rattle.mvm_set.specs.Once.{AreKept, once, without}
use Rattle.mvm_set.specs.ClassOf.{class_of, own_walk, own_walk_name}
use Rattle.mvm_set.specs.declared.class.Lineage.{Lineage}
use Rattle.mvm_set.proofs.Walked.{subclass_only, subclass_itself, subclass_inherited}
use Rattle.mvm_table.specs.Cost.{AreApart, IsSuper, HasSupers, costs, names_by, walk_names}
use Rattle.mvm_table.specs.Files.{File, files_in}
use Rattle.mvm_table.specs.Load.{is_in, all_loaded, load_on, found, known, load, load_with}
use Rattle.mvm_table.specs.Loads.{class_in, kept_by, ok_of}
use Rattle.mvm_table.specs.declared.fault.LoadFault.{LoadFault}
use Rattle.mvm_table.specs.declared.fault.LoadFault.TheVariants.{OutOfMemory}
use Rattle.mvm_table.proofs.Again.{loaded_named}
use Rattle.mvm_table.proofs.Bound.{IsMore, super_of, all_more, over_parts}
use Rattle.mvm_table.proofs.Kept.{load_kept}
use Rattle.mvm_table.proofs.Known.{known_name, file_named}
use Rattle.mvm_table.proofs.Paths.{loaded_parts, loads_alone}
use Rattle.mvm_table.proofs.Standing.{family_of}

-- ---- names of a list in which each stands once

module _ {A : Type 0} (f : A → Option (List ℕ)) where
  in_some : (o : Option (List ℕ)) (names : List (List ℕ)) (n : List ℕ) → is_in (with_name o names) n ≡ (is_text n o || is_in names n)
  in_some (Some x) names n = refl
  in_some None names n = refl

  -- a name is among those of a list where one is called so
  pub in_named : (xs : List A) (n : List ℕ) → is_in (names_by f xs) n ≡ list_any (λ x. is_text n (f x)) xs
  in_named [] n = refl
  in_named (x ∷ xs) n = in_some (f x) (names_by f xs) n ∙ ap (λ (b : Bool). is_text n (f x) || b) (in_named xs n)

  or_false : (a b : Bool) → (a || b) ≡ false → (a ≡ false) × (b ≡ false)
  or_false true b e = absurd cc
  or_false false b e = (refl, e)

  filter_in : (p : A → Bool) (xs : List A) (n : List ℕ) → is_in (names_by f xs) n ≡ false → is_in (names_by f (filter p xs)) n ≡ false
  filter_in p [] n e = refl
  filter_in p (x ∷ xs) n e = by (p x) (filter_in p xs n)
    where
      both : (is_text n (f x) ≡ false) × (is_in (names_by f xs) n ≡ false)
      both = or_false (is_text n (f x)) (is_in (names_by f xs) n) (sym (in_some (f x) (names_by f xs) n) ∙ e)

      by : (b : Bool) → (is_in (names_by f xs) n ≡ false → is_in (names_by f (filter p xs)) n ≡ false) → is_in (names_by f (cond b (x ∷ filter p xs) (filter p xs))) n ≡ false
      by true rest =
          in_some (f x) (names_by f (filter p xs)) n
          ∙ ap (λ (b : Bool). b || is_in (names_by f (filter p xs)) n) both.0 ∙ rest both.1
      by false rest = rest both.1

  apart_more : (o : Option (List ℕ)) (names : List (List ℕ)) → ((n : List ℕ) → o ≡ Some n → is_in names n ≡ false) → AreApart names → AreApart (with_name o names)
  apart_more (Some n) names h a = (h n refl, a)
  apart_more None names h a = a

  apart_rest : (o : Option (List ℕ)) (names : List (List ℕ)) → AreApart (with_name o names) → ((n : List ℕ) → o ≡ Some n → is_in names n ≡ false) × AreApart names
  apart_rest (Some m) names a = ((λ n e. let q : m ≡ n = cc in subst (λ (k : List ℕ). is_in names k ≡ false) q a.0), a.1)
  apart_rest None names a = ((λ n e. absurd cc), a)

  filter_apart : (p : A → Bool) (xs : List A) → AreApart (names_by f xs) → AreApart (names_by f (filter p xs))
  filter_apart p [] a = tt
  filter_apart p (x ∷ xs) a = by (p x) (filter_apart p xs)
    where
      rest : ((n : List ℕ) → f x ≡ Some n → is_in (names_by f xs) n ≡ false) × AreApart (names_by f xs)
      rest = apart_rest (f x) (names_by f xs) a

      by : (b : Bool) → (AreApart (names_by f xs) → AreApart (names_by f (filter p xs))) → AreApart (names_by f (cond b (x ∷ filter p xs) (filter p xs)))
      by true tail = apart_more (f x) (names_by f (filter p xs)) (λ n e. filter_in p xs n (rest.0 n e)) (tail rest.1)
      by false tail = tail rest.1

  same_so : (o : Option (List ℕ)) (n : List ℕ) (b : Option (List ℕ)) → b ≡ Some n → same_text o b ≡ is_text n o
  same_so (Some x) n b e = ap (same_text (Some x)) e
  same_so None n b e = ap (same_text None) e

  without_in : (x : A) (n : List ℕ) → f x ≡ Some n → (xs : List A) → is_in (names_by f (without f x xs)) n ≡ false
  without_in x n e [] = refl
  without_in x n e (y ∷ xs) = by (same_text (f y) (f x)) refl (without_in x n e xs)
    where
      by : (b : Bool) → same_text (f y) (f x) ≡ b → is_in (names_by f (without f x xs)) n ≡ false → is_in (names_by f (cond (not b) (y ∷ without f x xs) (without f x xs))) n ≡ false
      by true h rest = rest
      by false h rest =
          in_some (f y) (names_by f (without f x xs)) n
          ∙ ap (λ (b : Bool). b || is_in (names_by f (without f x xs)) n) (sym (same_so (f y) n (f x) e) ∙ h) ∙ rest

  pub once_apart : (xs : List A) → AreApart (names_by f (once f xs))
  once_apart [] = tt
  once_apart (x ∷ xs) =
      apart_more (f x) (names_by f (without f x (once f xs))) (λ n e. without_in x n e (once f xs))
      (filter_apart (λ y. not (same_text (f y) (f x))) (once f xs) (once_apart xs))

-- ---- a super stands in the tree

member_among : (loads : List ℕ → Result Family LoadFault) (sort : Bool) (called : List ℕ) (supers : List (List ℕ)) (ones : Families) (super : List ℕ) → all_loaded loads sort called supers ≡ Ok ones → is_in supers super ≡ true
    → (one : Family) × (loads super ≡ Ok one) × Among one ones
member_among loads sort called [] ones super e k = absurd cc
member_among loads sort called (other ∷ supers) ones super e k =
    let m = all_more loads sort called other supers ones e in
    by m (bytes_eq other super) refl k (member_among loads sort called supers m.others super m.rest)
  where
    by : (m : IsMore loads sort called other supers ones) (b : Bool) → bytes_eq other super ≡ b → (b || is_in supers super) ≡ true → (is_in supers super ≡ true → (one : Family) × (loads super ≡ Ok one) × Among one m.others) → (one : Family) × (loads super ≡ Ok one) × Among one ones
    by m true h t rest =
        let same : other ≡ super = (bytes_eq-Decides other super).0 h in
        (m.one, subst (λ (n : List ℕ). loads n ≡ Ok m.one) same (super_of loads sort called other m.one m.first), subst (λ (z : Families). Among m.one z) m.are tree.first)
    by m false h t rest =
        let r = rest t in
        (r.0, r.1, subst (λ (z : Families). Among r.0 z) m.are (later r.2))

among_through : {one other : Family} {ones : Families} → Among other ones → Inherits other one → Among one ones
among_through (tree.first {others = others}) (from_class a) = over_first a
among_through (tree.first {others = others}) (from_interface a) = across_first a
among_through (later a) i = later (among_through a i)
among_through (over_first a) i = over_first (among_through a i)
among_through (across_first a) i = across_first (among_through a i)

inherits_through : {one other third : Family} → Inherits one other → Inherits other third → Inherits one third
inherits_through (from_class a) i = from_class (among_through a i)
inherits_through (from_interface a) i = from_interface (among_through a i)

-- ---- each in the tree is kept

kept_parts : (kept : List ℕ → Option Family) (xs ys : List Family) → AreKept name kept (xs ++ ys) → AreKept name kept xs × AreKept name kept ys
kept_parts kept [] ys k = (tt, k)
kept_parts kept (x ∷ xs) ys k = let r = kept_parts kept xs ys k.1 in ((k.0, r.0), r.1)

among_kept : (kept : List ℕ → Option Family) {other : Family} {ones : Families} → Among other ones → AreKept name kept (all_visited ones) → option_and_then kept (name other) ≡ Some other
unfolding visited
among_kept kept (tree.first {one = family p u c} {others = others}) k = k.0
among_kept kept (later {other = one} {others = others} a) k = among_kept kept a (kept_parts kept (visited one) (all_visited others) k).1
among_kept kept (over_first {parts = p} {above = u} {across = c} {others = others} a) k =
    among_kept kept a (kept_parts kept (all_visited c) (all_visited u) (kept_parts kept (all_visited c ++ all_visited u) (all_visited others) k.1).0).1
among_kept kept (across_first {parts = p} {above = u} {across = c} {others = others} a) k =
    among_kept kept a (kept_parts kept (all_visited c) (all_visited u) (kept_parts kept (all_visited c ++ all_visited u) (all_visited others) k.1).0).0

inherited_kept : (kept : List ℕ → Option Family) {one other : Family} → Inherits one other → AreKept name kept (visited one) → option_and_then kept (name other) ≡ Some other
unfolding visited
inherited_kept kept (from_class {parts = p} {above = u} {across = c} a) k = among_kept kept a (kept_parts kept (all_visited c) (all_visited u) k.1).1
inherited_kept kept (from_interface {parts = p} {above = u} {across = c} a) k = among_kept kept a (kept_parts kept (all_visited c) (all_visited u) k.1).0

itself_kept : (kept : List ℕ → Option Family) (one : Family) → AreKept name kept (visited one) → option_and_then kept (name one) ≡ Some one
unfolding visited
itself_kept kept (family p u c) k = k.0

text_is : (o : Option (List ℕ)) (n : List ℕ) → is_text n o ≡ true → o ≡ Some n
text_is (Some x) n e = ap Some ((bytes_eq-Decides x n).0 e)
text_is None n e = absurd cc

is_text_of : (o : Option (List ℕ)) (n : List ℕ) → o ≡ Some n → is_text n o ≡ true
is_text_of o n e = ap (is_text n) e ∙ (bytes_eq-Decides n n).1 refl

kept_ok : (r : Result Family LoadFault) (x : Family) → ok_of r ≡ Some x → r ≡ Ok x
kept_ok (Ok y) x e = cc
kept_ok (Err fault) x e = absurd cc

-- ---- the names of a loaded class

module _ (set : ℕ) (files : List File) (root : List ℕ) (one : Family) (l : load files root ≡ Ok one) where
  abbrev many : ℕ
  many = length (known files)

  abbrev loading : List ℕ → Result Family LoadFault
  loading called = load_on (many + 1) (found files) [] called

  one_more : (n : ℕ) → n + 1 ≡ suc n
  one_more n = omega arith

  enough : many < many + 1
  enough = omega arith

  root_loads : loading root ≡ Ok one
  unfolding load_with
  root_loads = l

  child : (called super : List ℕ) (x : Family) (parts : Parts) → loading called ≡ Ok x → found files called ≡ Ok parts → IsSuper parts super → (y : Family) × (loading super ≡ Ok y) × Inherits x y
  child called super x parts e f s =
      let p = loaded_parts many (found files) [] called x (subst (λ (m : ℕ). load_on m (found files) [] called ≡ Ok x) (one_more many) e) in
      let below = load_on many (found files) ([] ++ called ∷ []) in
      let o = over_parts below called p.parts x p.is_over in
      let q : parts ≡ p.parts = let z = sym f ∙ p.is_found in cc in
      elim s [
        | inl k ↦
            let m = member_among below false called (superclass p.parts) o.above super o.one_above (subst (λ (z : Parts). is_in (superclass z) super ≡ true) q k) in
            (m.0, loads_alone (found files) (known files) (known_name files) many (many + 1) ([] ++ called ∷ []) super m.0 enough m.1, subst (λ (z : Family). Inherits z m.0) o.is (from_class m.2))
        | inr k ↦
            let m = member_among below true called (superinterfaces p.parts) o.across super o.all_across (subst (λ (z : Parts). is_in (superinterfaces z) super ≡ true) q k) in
            (m.0, loads_alone (found files) (known files) (known_name files) many (many + 1) ([] ++ called ∷ []) super m.0 enough m.1, subst (λ (z : Family). Inherits z m.0) o.is (from_interface m.2))
      ]

  kept : AreKept name (kept_by loading) (visited one)
  kept = load_kept (found files) (known files) (known_name files) (file_named files) (many + 1) enough root one root_loads

  -- what is kept under its name loads by it
  loads_so : (x : Family) (n : List ℕ) → is_called n (file x) ≡ true → option_and_then (kept_by loading) (name x) ≡ Some x → loading n ≡ Ok x
  loads_so x n c k = kept_ok (loading n) x (sym (ap (option_and_then (kept_by loading)) (text_is (name x) n c)) ∙ k)

  called_so : (x : Family) (n : List ℕ) → loading n ≡ Ok x → is_called n (file x) ≡ true
  called_so x n e = is_text_of (name x) n (loaded_named (found files) (file_named files) (many + 1) [] n x e)

  is_in_walk : (n : List ℕ) → is_in (walk_names (class_of set one)) n ≡ is_subclass (class_of set one) n
  unfolding is_subclass class_of
  is_in_walk n = in_named own_walk_name (class_of set one).walk n

  walk_supers : (n super : List ℕ) (parts : Parts) → is_in (walk_names (class_of set one)) n ≡ true → found files n ≡ Ok parts → IsSuper parts super → is_in (walk_names (class_of set one)) super ≡ true
  walk_supers n super parts i f s = by (subclass_only set one n (sym (is_in_walk n) ∙ i))
    where
      up : (x : Family) → is_called n (file x) ≡ true → option_and_then (kept_by loading) (name x) ≡ Some x → (y : Family) × (loading super ≡ Ok y) × Inherits x y
      up x c k = child n super x parts (loads_so x n c k) f s

      by : (other : Family) × ((other ≡ one) ⊎ Inherits one other) × (is_called n (file other) ≡ true) → is_in (walk_names (class_of set one)) super ≡ true
      by p = elim p.1 [
        | inl same ↦
            let y = up one (ap (λ (z : Family). is_called n (file z)) (sym same) ∙ p.2) (itself_kept (kept_by loading) one kept) in
            is_in_walk super ∙ subclass_inherited set one y.0 super y.2 (called_so y.0 super y.1)
        | inr h ↦
            let y = up p.0 p.2 (inherited_kept (kept_by loading) h kept) in
            is_in_walk super ∙ subclass_inherited set one y.0 super (inherits_through h y.2) (called_so y.0 super y.1)
      ]

  walked : (fs : List Family) → names_by own_walk_name (map own_walk fs) ≡ names_by name fs
  unfolding own_walk
  walked [] = refl
  walked (x ∷ fs) = ap (with_name (name x)) (walked fs)

  walk_apart : AreApart (walk_names (class_of set one))
  unfolding class_of walk
  walk_apart = subst AreApart (sym (walked (once name (visited one)))) (once_apart name (visited one))

  walk_root : is_in (walk_names (class_of set one)) root ≡ true
  walk_root = is_in_walk root ∙ subclass_itself set one root (called_so one root root_loads)

pub walk_has : (table : List (List File)) (set : ℕ) (root : List ℕ) (class : Lineage) → class_in table set root ≡ Ok class
    → HasSupers (files_in set table) (walk_names class) × (is_in (walk_names class) root ≡ true)
walk_has table set root class e =
    let files = files_in set table in
    let f = family_of set (load files root) class e in
    subst (λ (c : Lineage). HasSupers files (walk_names c) × (is_in (walk_names c) root ≡ true)) f.2
    (record { apart = walk_apart set files root f.0 f.1; supers = walk_supers set files root f.0 f.1 }, walk_root set files root f.0 f.1)

-- a class that was loaded costs no more than is to be read for it and for all that it inherits from
pub answers_reads : (table : List (List File)) (weight : List ℕ → ℕ) (set : ℕ) (root : List ℕ) (result : Result Lineage LoadFault) (before after : ℕ) → AnswersUnless OutOfMemory result (class_in table set root)
    → ((names : List (List ℕ)) → HasSupers (files_in set table) names → is_in names root ≡ true → after ≤ before + costs weight names)
    → IfOk result (λ class. after ≤ before + costs weight (walk_names class))
answers_reads table weight set root (Ok class) before after a h = let w = walk_has table set root class a in h (walk_names class) w.0 w.1
answers_reads table weight set root (Err fault) before after a h = tt
