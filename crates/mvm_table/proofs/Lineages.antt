-- Loading, over the classes that stand for families.
use Rattle.std.proofs.Common.{◌≡◌, ℕ, ◌+◌, ◌<◌, Bool, true, false, List, [], ◌∷◌, ◌++◌, length, Result, Ok, Err, refl, sym, ap, ◌∙◌, arith}
use Rattle.std.specs.Prelude.{not}
use Rattle.mvm_base.specs.Answers.{◌>>=◌}
use Rattle.mvm_base.specs.Rules.{expect}
use Rattle.mvm_layout.specs.declared.parts.Parts.{Parts}
use Rattle.mvm_set.specs.Names.{superclass, superinterfaces}
use Rattle.mvm_set.specs.Family.{Family, family, Families, more, file}
use Rattle.mvm_set.specs.ClassOf.{class_of, classes_of}
use Rattle.mvm_set.specs.Over.{class_over}
use Rattle.mvm_set.proofs.Joined.{class_law}
use Rattle.mvm_set.specs.declared.class.Lineage.{Lineage}
use Rattle.mvm_table.specs.Files.{File}
use Rattle.mvm_table.specs.Load.{is_in, may_stand, super_loaded, all_loaded, over, loaded_by, load_on, found, known}
use Rattle.mvm_table.specs.Loads.{classed}
use Rattle.mvm_table.specs.Begun.{class_loaded, classes_loaded, class_by, on_path}
use Rattle.mvm_table.specs.declared.fault.LoadFault.{LoadFault}
use Rattle.mvm_table.specs.declared.fault.LoadFault.TheVariants.{Circular}
use Rattle.mvm_table.proofs.Known.{known_name}
use Rattle.mvm_table.proofs.Fuel.{steady}

module _ (set : ℕ) (load : List ℕ → Result Family LoadFault) where
  abbrev classes : List ℕ → Result Lineage LoadFault
  classes name = classed set (load name)

  classed_stands : (one : Family) (r : Result (Unit {0}) LoadFault) → classed set (r >>= λ stands. Ok one) ≡ (r >>= λ stands. Ok (class_of set one))
  classed_stands one (Ok u) = refl
  classed_stands one (Err fault) = refl

  super_classed : (sort : Bool) (name super : List ℕ) → class_loaded classes sort name super ≡ classed set (super_loaded load sort name super)
  unfolding class_of
  super_classed sort name super = by (load super)
    where
      by : (r : Result Family LoadFault)
          → (classed set r >>= λ class. may_stand sort name class.file >>= λ stands. Ok class) ≡ classed set (r >>= λ one. may_stand sort name (file one) >>= λ stands. Ok one)
      by (Ok one) = sym (classed_stands one (may_stand sort name (file one)))
      by (Err fault) = refl

  abbrev all_classes : Result Families LoadFault → Result (List Lineage) LoadFault
  all_classes r = r >>= λ ones. Ok (classes_of set ones)

  all_classed : (sort : Bool) (name : List ℕ) (supers : List (List ℕ)) → classes_loaded classes sort name supers ≡ all_classes (all_loaded load sort name supers)
  all_classed sort name [] = refl
  all_classed sort name (super ∷ supers) =
      ap (λ (r : Result Lineage LoadFault). r >>= λ class. classes_loaded classes sort name supers >>= λ others. Ok (class ∷ others)) (super_classed sort name super)
      ∙ ap (λ (r : Result (List Lineage) LoadFault). classed set (super_loaded load sort name super) >>= λ class. r >>= λ others. Ok (class ∷ others)) (all_classed sort name supers)
      ∙ by (super_loaded load sort name super) (all_loaded load sort name supers)
    where
      by : (r : Result Family LoadFault) (s : Result Families LoadFault)
          → (classed set r >>= λ class. all_classes s >>= λ others. Ok (class ∷ others)) ≡ all_classes (r >>= λ one. s >>= λ others. Ok (more one others))
      by (Ok one) (Ok others) = refl
      by (Ok one) (Err fault) = refl
      by (Err fault) s = refl

  abbrev ok_class : Lineage → Result Lineage LoadFault
  ok_class class = Ok class

  over_classed : (name : List ℕ) (parts : Parts) → class_by set classes name parts ≡ classed set (over load name parts)
  unfolding over class_by
  over_classed name parts =
      ap (λ (r : Result (List Lineage) LoadFault). r >>= λ above. classes_loaded classes true name (superinterfaces parts) >>= λ across. Ok (class_over set parts above across)) (all_classed false name (superclass parts))
      ∙ ap (λ (r : Result (List Lineage) LoadFault). all_classes (all_loaded load false name (superclass parts)) >>= λ above. r >>= λ across. Ok (class_over set parts above across)) (all_classed true name (superinterfaces parts))
      ∙ by (all_loaded load false name (superclass parts)) (all_loaded load true name (superinterfaces parts))
    where
      by : (r s : Result Families LoadFault)
          → (all_classes r >>= λ above. all_classes s >>= λ across. Ok (class_over set parts above across)) ≡ classed set (r >>= λ above. s >>= λ across. Ok (family parts above across))
      by (Ok above) (Ok across) = ap ok_class (class_law set parts above across)
      by (Ok above) (Err fault) = refl
      by (Err fault) s = refl

-- ---- the class of a name on a path

more_than_all : (files : List File) → length (known files) < length (known files) + 1
more_than_all files = omega arith

module _ (set : ℕ) (files : List File) (path : List (List ℕ)) (name : List ℕ) where
  abbrev supers : List ℕ → Result Family LoadFault
  supers = load_on (length (known files) + 1) (found files) (path ++ name ∷ [])

  pub on_path_is : on_path set files path name ≡ (found files name >>= λ file. expect (not (is_in path name)) Circular >>= λ new. class_by set (on_path set files (path ++ name ∷ [])) name file)
  unfolding on_path loaded_by
  on_path_is =
      ap (classed set) (steady (found files) (known files) (known_name files) (length (known files) + 1) path name (more_than_all files))
      ∙ by (found files name) (expect (not (is_in path name)) Circular)
    where
      by : (r : Result Parts LoadFault) (u : Result (Unit {0}) LoadFault)
          → classed set (r >>= λ file. u >>= λ new. over supers name file) ≡ (r >>= λ file. u >>= λ new. class_by set (λ super. classed set (supers super)) name file)
      by (Ok file) (Ok new) = sym (over_classed set supers name file)
      by (Ok file) (Err fault) = refl
      by (Err fault) u = refl

  pub lost : (fault : LoadFault) → found files name ≡ Err fault → on_path set files path name ≡ Err fault
  lost fault e = on_path_is ∙ ap (λ (r : Result Parts LoadFault). r >>= λ file. expect (not (is_in path name)) Circular >>= λ new. class_by set (on_path set files (path ++ name ∷ [])) name file) e

  pub circular : (file : Parts) → found files name ≡ Ok file → is_in path name ≡ true → on_path set files path name ≡ Err Circular
  circular file e on =
      on_path_is
      ∙ ap (λ (r : Result Parts LoadFault). r >>= λ file. expect (not (is_in path name)) Circular >>= λ new. class_by set (on_path set files (path ++ name ∷ [])) name file) e
      ∙ ap (λ (b : Bool). expect (not b) Circular >>= λ new. class_by set (on_path set files (path ++ name ∷ [])) name file) on

  pub opened : (file : Parts) → found files name ≡ Ok file → is_in path name ≡ false → on_path set files path name ≡ class_by set (on_path set files (path ++ name ∷ [])) name file
  opened file e off =
      on_path_is
      ∙ ap (λ (r : Result Parts LoadFault). r >>= λ file. expect (not (is_in path name)) Circular >>= λ new. class_by set (on_path set files (path ++ name ∷ [])) name file) e
      ∙ ap (λ (b : Bool). expect (not b) Circular >>= λ new. class_by set (on_path set files (path ++ name ∷ [])) name file) off
