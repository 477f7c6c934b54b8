-- What is checked in a class's order of verification is what linking checks.
use Rattle.std.proofs.Common.{◌≡◌, ◌≢◌, ◌<◌, ℕ, ◌+◌, List, drop, length, get_or, Some, Result, Err, sym, ap, ◌∙◌, arith}
use Rattle.std.proofs.lemmas.List.{drop_more}
use Rattle.mvm_base.specs.Answers.{◌>>=◌, Fails}
use Rattle.mvm_layout.specs.declared.parts.Parts.{Parts}
use Rattle.mvm_check.specs.Check.{check_of}
use Rattle.mvm_check.specs.declared.fault.CheckFault.{CheckFault}
use Rattle.mvm_check.specs.declared.fault.CheckFault.TheVariants as check_fault
use Rattle.mvm_set.specs.Names.{own_name}
use Rattle.mvm_set.specs.Family.{Family, file}
use Rattle.mvm_set.specs.Once.{first, or_else}
use Rattle.mvm_set.specs.declared.class.Lineage.{Lineage}
use Rattle.mvm_set.specs.declared.own.OwnWalk.{OwnWalk}
use Rattle.mvm_set.proofs.Walked.{checked_law}
use Rattle.mvm_table.specs.Files.{File, files_in}
use Rattle.mvm_table.specs.Load.{found, known, load, load_with}
use Rattle.mvm_table.specs.Link.{fault_told, code_fault, or_sound, linked_family, linked, linked_files}
use Rattle.mvm_table.specs.Loads.{kept_by, IsLoaded}
use Rattle.mvm_table.specs.declared.fault.LoadFault.{LoadFault}
use Rattle.mvm_table.specs.declared.fault.LoadFault.TheVariants.{Check}
use Rattle.mvm_table.proofs.Known.{known_name, file_named}
use Rattle.mvm_table.proofs.Kept.{load_kept}
use Rattle.mvm_table.proofs.Standing.{family_of}

-- ---- one file

pub check_fails : (file : Parts) (fault : CheckFault) → fault ≢ check_fault.OutOfMemory → Fails check_fault.OutOfMemory fault (check_of file) → or_sound (code_fault file) ≡ Err (Check fault)
check_fails file fault n f = ap (λ (r : Result (Unit {0}) CheckFault). or_sound (fault_told r)) (f n)

-- ---- the list

next_own : (owns : List OwnWalk) (i : ℕ) (d : OwnWalk) → i < length owns → first (λ own. code_fault own.file) (drop i owns) ≡ or_else (code_fault (get_or owns i d).file) (first (λ own. code_fault own.file) (drop (i + 1) owns))
next_own owns i d h = ap (first (λ own. code_fault own.file)) (drop_more owns i d h)

-- ---- the class

pub linked_class : (table : List (List File)) (class : Lineage) (name : List ℕ) → IsLoaded table class → own_name class.file ≡ Some name → linked (files_in class.set table) name ≡ linked_files class.checked
unfolding linked linked_family load_with
linked_class table class name l n =
    let files = files_in class.set table in
    let same : l.name ≡ name = let q = sym l.is_name ∙ n in cc in
    let f = family_of class.set (load files l.name) class l.is_class in
    let k = load_kept (found files) (known files) (known_name files) (file_named files) (length (known files) + 1) enough l.name f.0 f.1 in
    ap (λ (m : List ℕ). load files m >>= linked_family) (sym same)
    ∙ ap (λ (r : Result Family LoadFault). r >>= linked_family) f.1
    ∙ ap or_sound (sym (checked_law code_fault (kept_by (load files)) class.set f.0 k))
    ∙ ap (λ (c : Lineage). linked_files c.checked) f.2
  where
    enough : length (known (files_in class.set table)) < length (known (files_in class.set table)) + 1
    enough = omega arith
