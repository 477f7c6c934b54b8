-- What loading gives for a name is a class of that name, in the set where it was looked for.
use Rattle.std.proofs.Common.{◌≡◌, ℕ, zero, suc, ◌+◌, ◌<◌, Bool, true, false, cond, List, [], ◌∷◌, ◌++◌, length, Option, Some, None, Result, Ok, Err, refl, sym, ap, subst, ◌∙◌, add-one}
use Rattle.std.specs.Prelude.{not}
use Rattle.mvm_base.specs.Answers.{◌>>=◌}
use Rattle.mvm_base.specs.Descriptor.{is_next}
use Rattle.mvm_base.specs.Rules.{expect}
use Rattle.mvm_layout.specs.declared.fault.ClassFault.{ClassFault}
use Rattle.mvm_layout.specs.declared.parts.Parts.{Parts}
use Rattle.mvm_classfile.specs.Reading.{reading}
use Rattle.mvm_builtin.specs.Classes.{builtin}
use Rattle.mvm_builtin.proofs.Computed.{all_kept}
use Rattle.mvm_builtin.proofs.Order.{named_so}
use Rattle.mvm_mirror.proofs.Numbers.{named}
use Rattle.mvm_set.specs.ClassOf.{class_of}
use Rattle.mvm_set.specs.Family.{Family, Families, family, file}
use Rattle.mvm_set.specs.Names.{own_name, is_called, superclass, superinterfaces}
use Rattle.mvm_set.specs.declared.class.Lineage.{Lineage}
use Rattle.mvm_table.specs.Files.{File, bytes_of, files_in}
use Rattle.mvm_table.specs.Load.{Find, all_loaded, called, defined, found, found_with, is_in, known, load, load_on, load_with, loaded_by, or_defined, over}
use Rattle.mvm_table.specs.Loads.{class_in, classed, IsLoaded}
use Rattle.mvm_table.specs.declared.fault.LoadFault.{LoadFault}
use Rattle.mvm_table.specs.declared.fault.LoadFault.TheVariants.{Circular, NoClass, WrongName}

-- a step that was made had a value
record Made {A B E : Type 0} (r : Result A E) (f : A → Result B E) (b : B) : Type 0 where
  a : A
  is : r ≡ Ok a
  then : f a ≡ Ok b

made : {A B E : Type 0} (r : Result A E) (f : A → Result B E) (b : B) → (r >>= f) ≡ Ok b → Made r f b
made (Ok a) f b e = record { a = a; is = refl; then = e }
made (Err fault) f b e = absurd cc

-- ---- the file of a name

abbrev no_class : Result Parts LoadFault
no_class = Err NoClass

abbrev wrong : Result Parts LoadFault
wrong = Err WrongName

abbrev ok_parts : Parts → Result Parts LoadFault
ok_parts parts = Ok parts

called_is : (name : List ℕ) (r : Result Parts ClassFault) (parts : Parts) → called name r ≡ Ok parts → own_name parts ≡ Some name
called_is name (Ok other) parts e = by (is_called name other) refl e
  where
    by : (b : Bool) → is_called name other ≡ b → cond b (ok_parts other) wrong ≡ Ok parts → own_name parts ≡ Some name
    by true t e = let s : other ≡ parts = cc in ap own_name (sym s) ∙ named name (own_name other) t
    by false t e = absurd cc
called_is name (Err fault) parts e = absurd cc

found_named : (files : List File) (name : List ℕ) (built : Option Parts) (parts : Parts) → builtin name ≡ built → or_defined reading built name files ≡ Ok parts → own_name parts ≡ Some name
found_named files name (Some other) parts b e = let s : other ≡ parts = cc in ap own_name (sym s) ∙ named_so name other all_kept b
found_named files name None parts b e = by (bytes_of name files) e
  where
    by : (bytes : Option (List ℕ)) → defined reading name bytes ≡ Ok parts → own_name parts ≡ Some name
    by (Some bytes) e = called_is name (reading bytes) parts e
    by None e = absurd cc

file_named : (files : List File) (name : List ℕ) (parts : Parts) → found files name ≡ Ok parts → own_name parts ≡ Some name
unfolding found_with
file_named files name parts e = by (is_next 91 name) e
  where
    by : (b : Bool) → cond b no_class (or_defined reading (builtin name) name files) ≡ Ok parts → own_name parts ≡ Some name
    by true e = absurd cc
    by false e = found_named files name (builtin name) parts refl e

-- ---- the class

over_file : (load : List ℕ → Result Family LoadFault) (name : List ℕ) (parts : Parts) (one : Family) → over load name parts ≡ Ok one → file one ≡ parts
unfolding over
over_file load name parts one e =
    let x = made (all_loaded load false name (superclass parts)) (λ (above : Families). all_loaded load true name (superinterfaces parts) >>= λ across. Ok (family parts above across)) one e in
    let y = made (all_loaded load true name (superinterfaces parts)) (λ (across : Families). Ok (family parts x.a across)) one x.then in
    let z : family parts x.a y.a ≡ one = cc (y.then) in
    ap file (sym z)

on_file : (n : ℕ) (find : Find) (path : List (List ℕ)) (name : List ℕ) (one : Family) → load_on n find path name ≡ Ok one → (parts : Parts) × (find name ≡ Ok parts) × (file one ≡ parts)
unfolding load_on loaded_by
on_file zero find path name one e = absurd cc
on_file (suc n) find path name one e =
    let below : List ℕ → Result Family LoadFault = load_on n find (path ++ name ∷ []) in
    let x = made (find name) (λ (parts : Parts). expect (not (is_in path name)) Circular >>= λ new. over below name parts) one e in
    let y = made (expect (not (is_in path name)) Circular) (λ (new : Unit {0}). over below name x.a) one x.then in
    (x.a, x.is, over_file below name x.a one y.then)

load_named : (files : List File) (name : List ℕ) (one : Family) → load files name ≡ Ok one → own_name (file one) ≡ Some name
unfolding load_with
load_named files name one e =
    let f = on_file (length (known files) + 1) (found files) [] name one e in
    ap own_name f.2 ∙ file_named files name f.0 f.1

record Family_of (set : ℕ) (d : Result Family LoadFault) (class : Lineage) : Type 0 where
  one : Family
  is : d ≡ Ok one
  class_is : class_of set one ≡ class

family_of : (set : ℕ) (d : Result Family LoadFault) (class : Lineage) → classed set d ≡ Ok class → Family_of set d class
family_of set (Ok one) class e = record { one = one; is = refl; class_is = cc }
family_of set (Err fault) class e = absurd cc

pub class_named : (files : List (List File)) (set : ℕ) (name : List ℕ) (class : Lineage) → class_in files set name ≡ Ok class → own_name class.file ≡ Some name
unfolding class_of
class_named files set name class e =
    let f = family_of set (load (files_in set files) name) class e in
    ap (λ (c : Lineage). own_name c.file) (sym f.class_is) ∙ load_named (files_in set files) name f.one f.is

pub class_set : (files : List (List File)) (set : ℕ) (name : List ℕ) (class : Lineage) → class_in files set name ≡ Ok class → class.set ≡ set
unfolding class_of
class_set files set name class e = let f = family_of set (load (files_in set files) name) class e in ap (λ (c : Lineage). c.set) (sym f.class_is)
