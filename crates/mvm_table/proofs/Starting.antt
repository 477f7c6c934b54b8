-- How a load begins, and what its end says.
use Rattle.std.proofs.Common.{◌≡◌, ◌<◌, ℕ, Bool, true, false, cond, List, [], ◌∷◌, Option, Some, None, Result, Ok, Err, refl, sym, ap, subst, ◌∙◌, ◌+◌, length}
use Rattle.std.specs.Prelude.{IfOk, IfSome, ◌||◌}
use Rattle.std.specs.Borrow.{Bor}
use Rattle.std.specs.Option.{option_copied}
use Rattle.std.specs.Str.{bytes_eq}
use Rattle.mvm_base.specs.Answers.{◌>>=◌, Fails, AnswersUnless}
use Rattle.mvm_layout.specs.declared.parts.Parts.{Parts}
use Rattle.mvm_set.specs.Names.{own_name}
use Rattle.mvm_set.specs.ClassOf.{class_of}
use Rattle.mvm_set.specs.declared.class.Lineage.{Lineage}
use Rattle.mvm_table.specs.Files.{File, files_in}
use Rattle.mvm_table.specs.Load.{is_in, found, known, load, load_with}
use Rattle.mvm_table.specs.Loads.{class_in, IsLoaded}
use Rattle.mvm_table.specs.Contents.{Contents, AreShelved, shelf_of}
use Rattle.mvm_table.specs.NameMap.{Rows, row, Puts}
use Rattle.mvm_table.specs.Begun.{on_path, begun_of, names_of, is_begun, IsLoading, Goes}
use Rattle.mvm_table.specs.declared.begun.Begun.{Begun}
use Rattle.mvm_table.specs.declared.fault.LoadFault.{LoadFault}
use Rattle.mvm_table.specs.declared.fault.LoadFault.TheVariants.{OutOfMemory}
use Rattle.mvm_table.proofs.Known.{file_named}
use Rattle.mvm_table.proofs.Again.{loaded_named}
use Rattle.mvm_table.proofs.Going.{eq_back}
use Rattle.mvm_table.proofs.Lineages.{lost}
use Rattle.mvm_table.proofs.Standing.{family_of, new_stands}

-- the class of a name on no path is the one that loading gives
pub no_path : (table : List (List File)) (set : ℕ) (name : List ℕ) → on_path set (files_in set table) [] name ≡ class_in table set name
unfolding on_path load_with
no_path table set name = refl

-- where the load ends, it ends with the class of the name
pub ends : (table : List (List File)) (set : ℕ) (root : List ℕ) (found : Option Lineage) (class : Lineage) (before : ℕ) (begun : List Begun) (met : Rows (Option Lineage)) → found ≡ Some class
    → Goes set (files_in set table) root before (Ok found) begun met → class_in table set root ≡ Ok class
ends table set root found class before begun met e g =
    sym (no_path table set root) ∙ subst (λ (f : Option Lineage). Goes set (files_in set table) root before (Ok f) begun met) e g

module _ (set : ℕ) (files : List File) (name : List ℕ) where
  pub starts : (file : Parts) (met : Rows (Option Lineage)) → found files name ≡ Ok file → Puts [] name None met → IsLoading set files name (begun_of name file ∷ []) met
  starts file met f p =
      record { stand = (new_stands set files [] name file f refl, tt); rooted = refl; path = record { each = on }; loaded = record { each = done } }
    where
      at_name : (other : List ℕ) (b : Bool) → bytes_eq other name ≡ b → row other met ≡ cond b (Some None) None
      at_name other b e = p other ∙ ap (λ (c : Bool). cond c (Some None) None) e

      on : (other : List ℕ) → is_in (names_of (begun_of name file ∷ [])) other ≡ is_begun (row other met)
      on other = by (bytes_eq other name) refl
        where
          by : (b : Bool) → bytes_eq other name ≡ b → (bytes_eq name other || false) ≡ is_begun (row other met)
          by true e = ap (λ (b : Bool). b || false) (eq_back name other ∙ e) ∙ sym (ap is_begun (at_name other true e))
          by false e = ap (λ (b : Bool). b || false) (eq_back name other ∙ e) ∙ sym (ap is_begun (at_name other false e))

      done : (other : List ℕ) (class : Lineage) → row other met ≡ Some (Some class) → on_path set files [] other ≡ Ok class
      done other class r = by (bytes_eq other name) refl
        where
          by : (b : Bool) → bytes_eq other name ≡ b → on_path set files [] other ≡ Ok class
          by true e = absurd (let z = sym (at_name other true e) ∙ r in cc)
          by false e = absurd (let z = sym (at_name other false e) ∙ r in cc)

  begun_ok : (r : Result Parts LoadFault) (begun : Begun) → (r >>= λ file. Ok (begun_of name file)) ≡ Ok begun → (file : Parts) × (r ≡ Ok file) × (begun_of name file ≡ begun)
  begun_ok (Ok file) begun e = (file, refl, cc)
  begun_ok (Err fault) begun e = absurd cc

  pub begins : (begun : Begun) (met : Rows (Option Lineage)) → (found files name >>= λ file. Ok (begun_of name file)) ≡ Ok begun → Puts [] name None met → IsLoading set files name (begun ∷ []) met
  begins begun met e p =
      let b = begun_ok (found files name) begun e in
      subst (λ (x : Begun). IsLoading set files name (x ∷ []) met) b.2 (starts b.0 met b.1 p)

  begun_err : (r : Result Parts LoadFault) (fault : LoadFault) → (r >>= λ file. Ok (begun_of name file)) ≡ Err fault → r ≡ Err fault
  begun_err (Ok file) fault e = absurd cc
  begun_err (Err other) fault e = cc

  pub no_file : (fault : LoadFault) → Fails OutOfMemory fault (found files name >>= λ file. Ok (begun_of name file)) → Fails OutOfMemory fault (on_path set files [] name)
  no_file fault f = λ k. lost set files [] name fault (begun_err (found files name) fault (f k))

abbrev pub ok_class : Lineage → Result Lineage LoadFault
ok_class class = Ok class

-- what stands on a shelf is the class of its name
pub shelf_gives : (table : Contents) (set : ℕ) (name : List ℕ) (result : Option (Bor Lineage)) → AreShelved table.files table.shelves → option_copied result ≡ row name (shelf_of set table.shelves)
    → IfSome result (λ class. class_in table.files set name ≡ Ok class.now)
shelf_gives table set name (Some class) a e = a.each set name class.now (sym e)
shelf_gives table set name None a e = tt

-- ---- the class that was loaded

-- the class of a name keeps what the calls want that are handed a class
pub is_loaded : (table : List (List File)) (set : ℕ) (name : List ℕ) (class : Lineage) → set < length table → class_in table set name ≡ Ok class → IsLoaded table class
unfolding load_with class_of
is_loaded table set name class w e =
    let files = files_in set table in
    let f = family_of set (load files name) class e in
    let s : set ≡ class.set = ap (λ (c : Lineage). c.set) f.2 in
    let own : own_name class.file ≡ Some name =
    ap (λ (c : Lineage). own_name c.file) (sym f.2) ∙ loaded_named (found files) (file_named files) (length (known files) + 1) [] name f.0 f.1 in
    record { name = name; is_name = own; is_class = subst (λ (n : ℕ). class_in table n name ≡ Ok class) s e; is_set = subst (λ (n : ℕ). n < length table) s w }

pub answers_loaded : (table : List (List File)) (set : ℕ) (name : List ℕ) (result : Result Lineage LoadFault) → set < length table → AnswersUnless OutOfMemory result (class_in table set name) → IfOk result (λ class. IsLoaded table class)
answers_loaded table set name (Ok class) w h = is_loaded table set name class w h
answers_loaded table set name (Err fault) w h = tt
