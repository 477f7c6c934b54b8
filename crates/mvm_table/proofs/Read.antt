-- What the answer of the reader says of the file of a name.
use Rattle.std.proofs.Common.{◌≡◌, ℕ, true, false, List, Some, Result, Ok, Err, refl, ap}
use Rattle.mvm_base.specs.Answers.{Fails}
use Rattle.mvm_layout.specs.declared.fault.ClassFault.{ClassFault}
use Rattle.mvm_layout.specs.declared.fault.ClassFault.TheVariants.{Magic, Version, Truncated, Trailing, Pool, Shape, Unsupported, OutOfMemory}
use Rattle.mvm_layout.specs.declared.parts.Parts.{Parts}
use Rattle.mvm_classfile.specs.Reading.{Reads, reading, fault_in, fault_of, Says}
use Rattle.mvm_classfile.proofs.Answered.{reading-complete}
use Rattle.mvm_set.specs.Names.{is_called}
use Rattle.mvm_table.specs.Load.{called}
use Rattle.mvm_table.specs.Loads.{unread}
use Rattle.mvm_table.specs.declared.fault.LoadFault.TheVariants as load_fault

pub is_named : (text : List ℕ) (name : List ℕ) (file : Parts) → Reads text file → is_called name file ≡ true → called name (reading text) ≡ Ok file
is_named text name file r e = rw (reading-complete text file r, e) refl

pub is_wrong : (text : List ℕ) (name : List ℕ) (file : Parts) → Reads text file → is_called name file ≡ false → called name (reading text) ≡ Err load_fault.WrongName
is_wrong text name file r e = rw (reading-complete text file r, e) refl

fault_is : (r : Result Parts ClassFault) (fault : ClassFault) → fault_in r ≡ Some fault → r ≡ Err fault
fault_is (Ok parts) fault e = absurd cc
fault_is (Err other) fault e = cc

faulty : (text name : List ℕ) (fault : ClassFault) → fault_of text ≡ Some fault → called name (reading text) ≡ called name (Err fault)
unfolding fault_of
faulty text name fault e = ap (called name) (fault_is (reading text) fault e)

pub is_faulty : (text name : List ℕ) (fault : ClassFault) → Says text (Err fault) → Fails load_fault.OutOfMemory (unread fault) (called name (reading text))
is_faulty text name OutOfMemory h = λ k. absurd (k refl)
is_faulty text name Magic h = λ k. faulty text name Magic h
is_faulty text name (Version n) h = λ k. faulty text name (Version n) h
is_faulty text name (Truncated n) h = λ k. faulty text name (Truncated n) h
is_faulty text name (Trailing n) h = λ k. faulty text name (Trailing n) h
is_faulty text name (Pool n) h = λ k. faulty text name (Pool n) h
is_faulty text name (Shape n) h = λ k. faulty text name (Shape n) h
is_faulty text name (Unsupported n) h = λ k. faulty text name (Unsupported n) h
