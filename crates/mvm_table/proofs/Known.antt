-- A name of which there is a file is known, and the file is called so.
use Rattle.std.proofs.Common.{◌≡◌, ℕ, Bool, true, false, cond, List, [], ◌∷◌, ◌++◌, Option, Some, None, Result, Ok, Err, refl, sym, ap, ◌∙◌}
use Rattle.std.specs.Prelude.{map, ◌||◌}
use Rattle.std.specs.Str.{bytes_eq}
use Rattle.std.proofs.lemmas.List.Folds.{list_any-append}
use Rattle.std.proofs.lemmas.Slice.Eq.{bytes_eq-Decides}
use Rattle.mvm_base.specs.Descriptor.{is_next}
use Rattle.mvm_layout.specs.Pool.{is_text}
use Rattle.mvm_layout.specs.declared.fault.ClassFault.{ClassFault}
use Rattle.mvm_layout.specs.declared.parts.Parts.{Parts}
use Rattle.mvm_classfile.specs.Reading.{reading}
use Rattle.mvm_builtin.specs.Classes.{builtin}
use Rattle.mvm_builtin.specs.Table.{rows}
use Rattle.mvm_set.specs.Names.{own_name, is_called}
use Rattle.mvm_table.specs.Files.{File, bytes_of}
use Rattle.mvm_table.specs.Load.{row_name, file_name, is_in, called, defined, or_defined, found, found_with, known}
use Rattle.mvm_table.specs.declared.fault.LoadFault.{LoadFault}
use Rattle.mvm_table.proofs.Built.{listed, named_so}
use Rattle.mvm_table.specs.declared.fault.LoadFault.TheVariants.{NoClass, WrongName}

abbrev names : List (List ℕ)
names = map row_name rows

abbrev no_class : Result Parts LoadFault
no_class = Err NoClass

abbrev wrong : Result Parts LoadFault
wrong = Err WrongName

abbrev ok_parts : Parts → Result Parts LoadFault
ok_parts file = Ok file

abbrev of_files : List File → List (List ℕ)
of_files files = map file_name files

has_bytes : (name : List ℕ) (files : List File) (bytes : List ℕ) → bytes_of name files ≡ Some bytes → is_in (of_files files) name ≡ true
has_bytes name [] bytes e = absurd cc
has_bytes name (one ∷ files) bytes e = by (bytes_eq one.name name) e (has_bytes name files bytes)
  where
    by : (b : Bool) → cond b (Some one.bytes) (bytes_of name files) ≡ Some bytes → (bytes_of name files ≡ Some bytes → is_in (of_files files) name ≡ true)
        → (b || is_in (of_files files) name) ≡ true
    by true e more = refl
    by false e more = more e

or_true : (a b : Bool) → b ≡ true → (a || b) ≡ true
or_true true b e = refl
or_true false b e = e

or_left : (a b : Bool) → a ≡ true → (a || b) ≡ true
or_left a b e = rw e refl

is_known : (files : List File) (name : List ℕ) (built : Option Parts) (file : Parts) → builtin name ≡ built → or_defined reading built name files ≡ Ok file → is_in (names ++ of_files files) name ≡ true
is_known files name (Some other) file b e =
    list_any-append (λ (x : List ℕ). bytes_eq x name) names (of_files files) ∙ or_left (is_in names name) (is_in (of_files files) name) (listed name other b)
is_known files name None file b e = by (bytes_of name files) refl e
  where
    by : (bytes : Option (List ℕ)) → bytes_of name files ≡ bytes → defined reading name bytes ≡ Ok file → is_in (names ++ of_files files) name ≡ true
    by (Some bytes) f e = list_any-append (λ (x : List ℕ). bytes_eq x name) names (of_files files) ∙ or_true (is_in names name) (is_in (of_files files) name) (has_bytes name files bytes f)
    by None f e = absurd cc

pub known_name : (files : List File) (name : List ℕ) (file : Parts) → found files name ≡ Ok file → is_in (known files) name ≡ true
unfolding found_with known
known_name files name file e = by (is_next 91 name) e
  where
    by : (b : Bool) → cond b no_class (or_defined reading (builtin name) name files) ≡ Ok file → is_in (names ++ of_files files) name ≡ true
    by true e = absurd cc
    by false e = is_known files name (builtin name) file refl e

-- ---- the name of a file

is_called_is : (name : List ℕ) (own : Option (List ℕ)) → is_text name own ≡ true → own ≡ Some name
is_called_is name (Some other) e = ap Some ((bytes_eq-Decides other name).0 e)
is_called_is name None e = absurd cc

called_is : (name : List ℕ) (r : Result Parts ClassFault) (file : Parts) → called name r ≡ Ok file → own_name file ≡ Some name
called_is name (Ok other) file e = by (is_called name other) refl e
  where
    by : (b : Bool) → is_called name other ≡ b → cond b (ok_parts other) wrong ≡ Ok file → own_name file ≡ Some name
    by true t e = let s : other ≡ file = cc in ap own_name (sym s) ∙ is_called_is name (own_name other) t
    by false t e = absurd cc
called_is name (Err fault) file e = absurd cc

found_named : (files : List File) (name : List ℕ) (built : Option Parts) (file : Parts) → builtin name ≡ built → or_defined reading built name files ≡ Ok file → own_name file ≡ Some name
found_named files name (Some other) file b e = let s : other ≡ file = cc in ap own_name (sym s) ∙ named_so name other b
found_named files name None file b e = by (bytes_of name files) e
  where
    by : (bytes : Option (List ℕ)) → defined reading name bytes ≡ Ok file → own_name file ≡ Some name
    by (Some bytes) e = called_is name (reading bytes) file e
    by None e = absurd cc

pub file_named : (files : List File) (name : List ℕ) (file : Parts) → found files name ≡ Ok file → own_name file ≡ Some name
unfolding found_with
file_named files name file e = by (is_next 91 name) e
  where
    by : (b : Bool) → cond b no_class (or_defined reading (builtin name) name files) ≡ Ok file → own_name file ≡ Some name
    by true e = absurd cc
    by false e = found_named files name (builtin name) file refl e
