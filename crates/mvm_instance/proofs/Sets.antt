-- A class that was looked up is one of the set in which it was looked up.
use Rattle.std.proofs.Common.{◌≡◌, ℕ, List, Result, Ok, Err, refl, sym, ap}
use Rattle.mvm_isolate.specs.Faults.{looked_up}
use Rattle.mvm_isolate.specs.Look.{Look, look_in}
use Rattle.mvm_set.specs.ClassOf.{class_of}
use Rattle.mvm_set.specs.Family.{Family}
use Rattle.mvm_set.specs.declared.class.Lineage.{Lineage}
use Rattle.mvm_table.specs.Files.{File, files_in}
use Rattle.mvm_table.specs.Load.{load}
use Rattle.mvm_table.specs.Loads.{class_in, classed}
use Rattle.mvm_table.specs.declared.fault.LoadFault.{LoadFault}

-- what was looked up without a fault
pub found : (looked : Result Lineage LoadFault) (class : Lineage) → looked_up looked ≡ Ok class → looked ≡ Ok class
found (Ok one) class e = cc
found (Err fault) class e = absurd cc

set_of_class : (set : ℕ) (one : Family) (class : Lineage) → class_of set one ≡ class → class.set ≡ set
unfolding class_of
set_of_class set one class e = sym (ap (λ (c : Lineage). c.set) e)

pub class_of_set : (files : List (List File)) (set : ℕ) (name : List ℕ) (class : Lineage) → looked_up ((look_in files set).class name) ≡ Ok class → class.set ≡ set
unfolding look_in
class_of_set files set name class e = by (load (files_in set files) name) (found (class_in files set name) class e)
  where
    by : (loaded : Result Family LoadFault) → classed set loaded ≡ Ok class → class.set ≡ set
    by (Ok one) h = set_of_class set one class cc
    by (Err fault) h = absurd cc
