-- What a look-up answers, and why an attempt stops at its fault.
use Rattle.std.proofs.Common.{◌≡◌, ◌≢◌, ℕ, List, Result, Ok, Err, refl, sym, ap, subst, ◌∙◌}
use Rattle.mvm_base.specs.Answers.{◌>>=◌, Fails}
use Rattle.mvm_set.specs.declared.class.Lineage.{Lineage}
use Rattle.mvm_table.specs.Files.{File, files_in}
use Rattle.mvm_table.specs.Link.{linked}
use Rattle.mvm_table.specs.Loads.{class_in}
use Rattle.mvm_table.specs.Resolve.{resolve}
use Rattle.mvm_table.specs.declared.fault.LoadFault.{LoadFault}
use Rattle.mvm_table.specs.declared.fault.LoadFault.TheVariants as faults
use Rattle.mvm_table.specs.declared.resolved.Resolved.{Resolved}
use Rattle.mvm_isolate.specs.Faults.{looked_up, stopped_by}
use Rattle.mvm_isolate.specs.Look.{look_in}
use Rattle.mvm_isolate.specs.declared.stop.Stop.{Stop}
use Rattle.mvm_isolate.specs.declared.stop.Stop.TheVariants as stop
use Rattle.mvm_isolate.proofs.Named.{class_set}

-- ---- answers

pub found_up : {A : Type 0} (definition : Result A LoadFault) (x : A) → looked_up definition ≡ Ok x → definition ≡ Ok x
found_up (Ok y) x e = let h : y ≡ x = cc in ap (λ z. Ok z) h
found_up (Err fault) x e = absurd cc

pub failed_up : {A : Type 0} (definition : Result A LoadFault) (fault : LoadFault) (why : Stop) → Fails faults.OutOfMemory fault definition → why ≡ stopped_by fault → Fails stop.OutOfMemory why (looked_up definition)
unfolding stopped_by
failed_up {A} definition fault why f e = λ n. ap (looked_up {A = A}) (f (λ h. n (e ∙ ap stopped_by h))) ∙ ap (λ (s : Stop). Err s) (sym e)

-- ---- what is looked up

module _ (files : List (List File)) (set : ℕ) (name : List ℕ) where
  pub look_class : (look_in files set).class name ≡ class_in files set name
  unfolding look_in
  look_class = refl

  module _ (class : Lineage) (e : looked_up ((look_in files set).class name) ≡ Ok class) where
    found : class_in files set name ≡ Ok class
    found = sym look_class ∙ found_up ((look_in files set).class name) class e

    pub look_entry : (index : ℕ) → (look_in files set).entry name index ≡ resolve files class index
    unfolding look_in
    look_entry index = ap (λ (r : Result Lineage LoadFault). r >>= λ from. resolve files from index) found

    pub look_linked : (look_in files set).linked name ≡ linked (files_in class.set files) name
    unfolding look_in
    look_linked = ap (λ (s : ℕ). linked (files_in s files) name) (sym (class_set files set name class found))
