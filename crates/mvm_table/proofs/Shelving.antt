-- What a shelf has after a class was put on it.
use Rattle.std.proofs.Common.{◌≡◌, ◌≢◌, ◌<◌, ◌≤◌, ℕ, zero, suc, ◌==◌, Bool, true, false, cond, List, [], ◌∷◌, ◌++◌, length, get_or, slice_set, Option, Some, None, Result, Ok, Err, refl, sym, ap, subst, ◌∙◌, arith}
use Rattle.std.specs.Prelude.{OnOk, OnErr, ◌&&◌, is_some, option_and_then}
use Rattle.std.specs.Str.{bytes_eq}
use Rattle.std.proofs.lemmas.Bool.Decides.{Decides-eqb}
use Rattle.std.proofs.lemmas.Slice.Eq.{bytes_eq-Decides}
use Rattle.mvm_base.specs.declared.memory.OutOfMemory.{OutOfMemory}
use Rattle.mvm_set.specs.Names.{own_name}
use Rattle.mvm_set.specs.declared.class.Lineage.{Lineage}
use Rattle.mvm_table.specs.Contents.{Contents, AreShelved, PutsOn, Stay, stands, is_shelved, shelf_of, off_name, off, all_off}
use Rattle.mvm_table.specs.Files.{File}
use Rattle.mvm_table.specs.Loads.{class_in, IsLoaded}
use Rattle.mvm_table.specs.NameMap.{Rows, row, without, Puts}
use Rattle.mvm_table.specs.declared.fault.LoadFault.{LoadFault}

abbrev ok_class : Lineage → Result Lineage LoadFault
ok_class class = Ok class

and_both : (a b : Bool) → (a && b) ≡ true → (a ≡ true) × (b ≡ true)
and_both true true e = (refl, refl)
and_both true false e = absurd cc
and_both false b e = absurd cc

pub eq_is : (m n : ℕ) → (m == n) ≡ true → m ≡ n
eq_is m n e = (Decides-eqb m n).0 e

eq_self : (n : ℕ) → (n == n) ≡ true
eq_self n = (Decides-eqb n n).1 refl

pub apart : (m n : ℕ) → (m == n) ≡ false → m ≢ n
apart m n e s = absurd (let k = sym ((Decides-eqb m n).1 s) ∙ e in cc)

-- one shelf in the place of another
shelf_there : (xs : List (Rows Lineage)) (set : ℕ) (rows : Rows Lineage) → set < length xs → shelf_of set (slice_set xs set rows) ≡ rows
shelf_there [] set rows w = absurd (omega (arith, w))
shelf_there (x ∷ xs) zero rows w = refl
shelf_there (x ∷ xs) (suc set) rows w = shelf_there xs set rows (omega (arith, w))

shelf_else : (xs : List (Rows Lineage)) (set other : ℕ) (rows : Rows Lineage) → other ≢ set → shelf_of other (slice_set xs set rows) ≡ shelf_of other xs
shelf_else [] set other rows n = refl
shelf_else (x ∷ xs) zero zero rows n = absurd (n refl)
shelf_else (x ∷ xs) zero (suc other) rows n = refl
shelf_else (x ∷ xs) (suc set) zero rows n = refl
shelf_else (x ∷ xs) (suc set) (suc other) rows n = shelf_else xs set other rows (λ e. n (ap suc e))

pub shelf_at : (xs : List (Rows Lineage)) (set : ℕ) (d : Rows Lineage) → set < length xs → shelf_of set xs ≡ get_or xs set d
shelf_at [] set d w = absurd (omega (arith, w))
shelf_at (x ∷ xs) zero d w = refl
shelf_at (x ∷ xs) (suc set) d w = shelf_at xs set d (omega (arith, w))

pub puts_on : (old : List (Rows Lineage)) (set : ℕ) (name : List ℕ) (class : Lineage) (before rows : Rows Lineage) → set < length old → before ≡ shelf_of set old → Puts before name class rows → PutsOn old set name class (slice_set old set rows)
puts_on old set name class before rows w b p = λ other_set other. by other_set other (other_set == set) refl
  where
    by : (other_set : ℕ) (other : List ℕ) (e : Bool) → (other_set == set) ≡ e
        → row other (shelf_of other_set (slice_set old set rows)) ≡ cond (e && bytes_eq other name) (Some class) (row other (shelf_of other_set old))
    by other_set other true e =
        let same : other_set ≡ set = eq_is other_set set e in
        ap (λ (n : ℕ). row other (shelf_of n (slice_set old set rows))) same ∙ ap (row other) (shelf_there old set rows w)
        ∙ p other ∙ ap (λ (r : Rows Lineage). cond (bytes_eq other name) (Some class) (row other r)) (b ∙ ap (λ (n : ℕ). shelf_of n old) (sym same))
    by other_set other false e = ap (row other) (shelf_else old set other_set rows (apart other_set set e))

module _ (old new : List (Rows Lineage)) (set : ℕ) (name : List ℕ) (class : Lineage) (p : PutsOn old set name class new) where
  pub put_shelved : (files : List (List File)) → AreShelved files old → class_in files set name ≡ Ok class → AreShelved files new
  put_shelved files a c = record { each = λ other_set other k r. by other_set other k r ((other_set == set) && bytes_eq other name) refl }
    where
      by : (other_set : ℕ) (other : List ℕ) (k : Lineage) → row other (shelf_of other_set new) ≡ Some k → (b : Bool) → ((other_set == set) && bytes_eq other name) ≡ b → class_in files other_set other ≡ Ok k
      by other_set other k r true e =
          let both = and_both (other_set == set) (bytes_eq other name) e in
          let m : other_set ≡ set = eq_is other_set set both.0 in
          let n : other ≡ name = (bytes_eq-Decides other name).0 both.1 in
          let q : Some class ≡ Some k = sym (p other_set other ∙ ap (λ (b : Bool). cond b (Some class) (row other (shelf_of other_set old))) e) ∙ r in
          let s : class ≡ k = cc in
          ap (λ (x : ℕ). class_in files x other) m ∙ ap (class_in files set) n ∙ c ∙ ap ok_class s
      by other_set other k r false e =
          a.each other_set other k (sym (p other_set other ∙ ap (λ (b : Bool). cond b (Some class) (row other (shelf_of other_set old))) e) ∙ r)

  pub put_stays : (other_set : ℕ) (other : List ℕ) → is_some (row other (shelf_of other_set old)) ≡ true → is_some (row other (shelf_of other_set new)) ≡ true
  put_stays other_set other s = ap is_some (p other_set other) ∙ by ((other_set == set) && bytes_eq other name)
    where
      by : (b : Bool) → is_some (cond b (Some class) (row other (shelf_of other_set old))) ≡ true
      by true = refl
      by false = s

  pub put_there : is_some (row name (shelf_of set new)) ≡ true
  put_there = ap is_some (p set name) ∙ ap (λ (b : Bool). is_some (cond b (Some class) (row name (shelf_of set old)))) (both (set == set) (bytes_eq name name) (eq_self set) ((bytes_eq-Decides name name).1 refl))
    where
      both : (a b : Bool) → a ≡ true → b ≡ true → (a && b) ≡ true
      both true true e f = refl
      both true false e f = absurd cc
      both false b e f = absurd cc

pub stands_so : (table : Contents) (class : Lineage) (name : List ℕ) → own_name class.file ≡ Some name → stands table class ≡ is_shelved table class.set name
stands_so table class name e = ap (λ (o : Option (List ℕ)). is_some (option_and_then (λ n. row n (shelf_of class.set table.shelves)) o)) e

pub stands_stay : (old new : Contents) (class : Lineage) → Stay old new → stands old class ≡ true → stands new class ≡ true
stands_stay old new class s e = by (own_name class.file) refl
  where
    by : (o : Option (List ℕ)) → own_name class.file ≡ o → stands new class ≡ true
    by (Some name) n = stands_so new class name n ∙ s class.set name (sym (stands_so old class name n) ∙ e)
    by None n = absurd (let z = sym (ap (λ (o : Option (List ℕ)). is_some (option_and_then (λ m. row m (shelf_of class.set old.shelves)) o)) n) ∙ e in cc)

-- a class that is loaded is the one of its name
pub loaded_so : (files : List (List File)) (class : Lineage) (name : List ℕ) → IsLoaded files class → own_name class.file ≡ Some name → class_in files class.set name ≡ Ok class
loaded_so files class name l e = let same : l.name ≡ name = let q = sym l.is_name ∙ e in cc in subst (λ (n : List ℕ). class_in files class.set n ≡ Ok class) same l.is_class

-- ---- classes taken off again

set_twice : (xs : List (Rows Lineage)) (set : ℕ) (one other : Rows Lineage) → slice_set (slice_set xs set one) set other ≡ slice_set xs set other
set_twice [] set one other = refl
set_twice (x ∷ xs) zero one other = refl
set_twice (x ∷ xs) (suc set) one other = ap (λ (ys : List (Rows Lineage)). x ∷ ys) (set_twice xs set one other)

set_same : (xs : List (Rows Lineage)) (set : ℕ) → slice_set xs set (shelf_of set xs) ≡ xs
set_same [] set = refl
set_same (x ∷ xs) zero = refl
set_same (x ∷ xs) (suc set) = ap (λ (ys : List (Rows Lineage)). x ∷ ys) (set_same xs set)

-- a set that there is not has no shelf
pub set_past : (xs : List (Rows Lineage)) (set : ℕ) (rows : Rows Lineage) → length xs ≤ set → slice_set xs set rows ≡ xs
set_past [] set rows w = refl
set_past (x ∷ xs) zero rows w = absurd (omega (arith, w))
set_past (x ∷ xs) (suc set) rows w = ap (λ (ys : List (Rows Lineage)). x ∷ ys) (set_past xs set rows (omega (arith, w)))

pub back_on : (old : List (Rows Lineage)) (set : ℕ) (name : List ℕ) (before rows : Rows Lineage) → set < length old → before ≡ shelf_of set old → (row name before ≡ None → without name rows ≡ before)
    → row name (shelf_of set old) ≡ None → off_name (Some name) set (slice_set old set rows) ≡ old
back_on old set name before rows w b t n =
    set_twice old set rows (without name (shelf_of set (slice_set old set rows)))
    ∙ ap (λ (r : Rows Lineage). slice_set old set (without name r)) (shelf_there old set rows w)
    ∙ ap (slice_set old set) (t (ap (row name) b ∙ n) ∙ b)
    ∙ set_same old set

pub take_off_there : (old : List (Rows Lineage)) (set : ℕ) (name : List ℕ) (before rows : Rows Lineage) → before ≡ shelf_of set old → rows ≡ without name before → slice_set old set rows ≡ off_name (Some name) set old
take_off_there old set name before rows b r = ap (slice_set old set) (r ∙ ap (without name) b)

without_none : (name : List ℕ) (rows : Rows Lineage) → row name rows ≡ None → without name rows ≡ rows
without_none name [] n = refl
without_none name (x ∷ rows) n = by (bytes_eq name x.0) n (without_none name rows)
  where
    by : (b : Bool) → cond b (Some x.1) (row name rows) ≡ None → (row name rows ≡ None → without name rows ≡ rows) → cond b rows (x ∷ without name rows) ≡ x ∷ rows
    by true h rest = absurd cc
    by false h rest = ap (λ (ys : Rows Lineage). x ∷ ys) (rest h)

-- a class that does not stand is taken off in vain
pub off_none : (class : Lineage) (name : List ℕ) (shelves : List (Rows Lineage)) → own_name class.file ≡ Some name → row name (shelf_of class.set shelves) ≡ None → off class shelves ≡ shelves
off_none class name shelves o n =
    ap (λ (own : Option (List ℕ)). off_name own class.set shelves) o
    ∙ ap (slice_set shelves class.set) (without_none name (shelf_of class.set shelves) n)
    ∙ set_same shelves class.set

pub all_off_last : (classes : List Lineage) (class : Lineage) (shelves : List (Rows Lineage)) → all_off (classes ++ class ∷ []) shelves ≡ all_off classes (off class shelves)
all_off_last [] class shelves = refl
all_off_last (x ∷ classes) class shelves = ap (off x) (all_off_last classes class shelves)

not_some : {X : Type 0} (o : Option X) → is_some o ≡ false → o ≡ None
not_some (Some x) e = absurd cc
not_some None e = refl

-- a class that did not stand has no row
pub no_row : (table : Contents) (class : Lineage) (name : List ℕ) → own_name class.file ≡ Some name → stands table class ≡ false → row name (shelf_of class.set table.shelves) ≡ None
no_row table class name o s = not_some (row name (shelf_of class.set table.shelves)) (sym (stands_so table class name o) ∙ s)

-- what is so where a call is done, is so where it is done
pub on_done : {P Q : Type 0} (r : Result (Unit {0}) OutOfMemory) → OnOk r P → (P → Q) → OnOk r Q
on_done (Ok u) p f = f p
on_done (Err fault) p f = tt

-- a class that did not stand, put or not put, is taken off again
pub new_back : (r : Result (Unit {0}) OutOfMemory) (classes : List Lineage) (class : Lineage) (name : List ℕ) (old new : Contents) → OnOk r (stands old class ≡ false → off class new.shelves ≡ old.shelves) → OnErr r (new ≡ old)
    → stands old class ≡ false → own_name class.file ≡ Some name → all_off (classes ++ class ∷ []) new.shelves ≡ all_off classes old.shelves
new_back (Ok u) classes class name old new b e s o = all_off_last classes class new.shelves ∙ ap (all_off classes) (b s)
new_back (Err fault) classes class name old new b e s o =
    ap (λ (t : Contents). all_off (classes ++ class ∷ []) t.shelves) e
    ∙ all_off_last classes class old.shelves
    ∙ ap (all_off classes) (off_none class name old.shelves o (no_row old class name o s))

-- ---- one class put on its shelf

-- what every table keeps is kept, whether the class was put there or not
pub shelved_after : (r : Result (Unit {0}) OutOfMemory) (old new : List (Rows Lineage)) (set : ℕ) (name : List ℕ) (class : Lineage) → OnOk r (PutsOn old set name class new) → OnErr r (new ≡ old)
    → (files : List (List File)) → AreShelved files old → class_in files set name ≡ Ok class → AreShelved files new
shelved_after (Ok u) old new set name class p e files a c = put_shelved old new set name class p files a c
shelved_after (Err fault) old new set name class p e files a c = subst (λ (shelves : List (Rows Lineage)). AreShelved files shelves) (sym e) a

-- the class of a name, told by other words for the files, the set and the class
pub class_moved : (f g : List (List File)) (s t : ℕ) (name : List ℕ) (k l : Lineage) → f ≡ g → s ≡ t → k ≡ l → class_in g t name ≡ Ok l → class_in f s name ≡ Ok k
class_moved f g s t name k l ef es ek h =
    ap (λ (x : List (List File)). class_in x s name) ef ∙ ap (λ (n : ℕ). class_in g n name) es ∙ h ∙ sym (ap ok_class ek)

pub stands_put : (table : Contents) (class : Lineage) (name : List ℕ) (set : ℕ) (k : Lineage) (old : List (Rows Lineage)) → own_name class.file ≡ Some name → set ≡ class.set → PutsOn old set name k table.shelves → stands table class ≡ true
stands_put table class name set k old o e p =
    stands_so table class name o ∙ ap (λ (n : ℕ). is_some (row name (shelf_of n table.shelves))) (sym e) ∙ put_there old table.shelves set name k p
