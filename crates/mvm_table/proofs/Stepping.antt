-- What each way through a step of a load answers.
use Rattle.std.proofs.Common.{◌≡◌, ◌<◌, ℕ, List, [], ◌∷◌, ◌++◌, Option, Some, None, Result, Ok, Err, refl, sym, ap, subst, ◌∙◌}
use Rattle.mvm_base.specs.Answers.{Fails}
use Rattle.mvm_layout.specs.declared.parts.Parts.{Parts}
use Rattle.mvm_set.specs.Over.{class_over}
use Rattle.mvm_set.specs.declared.class.Lineage.{Lineage}
use Rattle.mvm_table.specs.Files.{File}
use Rattle.mvm_table.specs.Load.{may_stand, found}
use Rattle.mvm_table.specs.NameMap.{Rows, row, Puts}
use Rattle.mvm_table.specs.Begun.{on_path, super_at, is_interface_place, listed, taken, begun_of, began, IsLoading, to_do, Closes, Goes}
use Rattle.mvm_table.specs.declared.begun.Begun.{Begun}
use Rattle.mvm_table.specs.declared.fault.LoadFault.{LoadFault}
use Rattle.mvm_table.specs.declared.fault.LoadFault.TheVariants.{OutOfMemory, Circular}
use Rattle.mvm_table.proofs.Going.{root_is, is_closed, is_taken, given_ready, may_not_stand, not_found, is_circular, is_opened}

module _ (set : ℕ) (files : List File) (root : List ℕ) (xs : List Begun) (top : Begun) (met : Rows (Option Lineage)) (l : IsLoading set files root (xs ++ top ∷ []) met) where
  -- the load goes on with these, and there is less to do
  abbrev GoesOn : List Begun → Rows (Option Lineage) → Type 0
  GoesOn ys new = IsLoading set files root ys new × (to_do files ys new < to_do files (xs ++ top ∷ []) met)

  abbrev finished : Lineage
  finished = class_over set top.file (listed top.above) top.across

  abbrev ok : Lineage → Result Lineage LoadFault
  ok class = Ok class

  pub closes : (found : Option Lineage) (new : Rows (Option Lineage)) → None ≡ super_at top.file top.next → Closes xs top.name finished met new found
      → Goes set files root (to_do files (xs ++ top ∷ []) met) (Ok found) xs new
  closes (Some answer) new s c = root_is set files root xs top met l c.0 (sym s) ∙ ap ok (sym c.1)
  closes None new s c = is_closed set files root xs top met l new (sym s) c

  pub skips : (ys : List Begun) → Some None ≡ super_at top.file top.next → ys ≡ xs ++ taken top None ∷ [] → GoesOn ys met
  skips ys s e = subst (λ (zs : List Begun). GoesOn zs met) (sym e) (is_taken set files root xs top met l None None (sym s) tt)

  module _ (super : List ℕ) (s : Some (Some super) ≡ super_at top.file top.next) where
    pub serves : (class : Lineage) (ys : List Begun) → on_path set files [] super ≡ Ok class → Ok tt ≡ may_stand (is_interface_place top.next) top.name class.file → ys ≡ xs ++ taken top (Some class) ∷ [] → GoesOn ys met
    serves class ys c m e =
        subst (λ (zs : List Begun). GoesOn zs met) (sym e)
        (is_taken set files root xs top met l (Some super) (Some class) (sym s) (given_ready set files root xs top met l super class (sym s) c (sym m)))

    pub refuses : (class : Lineage) (fault : LoadFault) → on_path set files [] super ≡ Ok class → Err fault ≡ may_stand (is_interface_place top.next) top.name class.file → Fails OutOfMemory fault (on_path set files [] root)
    refuses class fault c m = λ k. may_not_stand set files root xs top met l super class fault (sym s) c (sym m)

    pub waits : row super met ≡ Some None → Fails OutOfMemory Circular (on_path set files [] root)
    waits r = λ k. is_circular set files root xs top met l super (sym s) r

    lost_file : (r : Result Parts LoadFault) (fault : LoadFault) → began super r ≡ Err fault → r ≡ Err fault
    lost_file (Ok file) fault e = absurd cc
    lost_file (Err other) fault e = cc

    pub fails : (fault : LoadFault) → Fails OutOfMemory fault (began super (found files super)) → Fails OutOfMemory fault (on_path set files [] root)
    fails fault f = λ k. not_found set files root xs top met l super fault (sym s) (lost_file (found files super) fault (f k))

    of_file : (r : Result Parts LoadFault) (new : Begun) → began super r ≡ Ok new → (file : Parts) × (r ≡ Ok file) × (begun_of super file ≡ new)
    of_file (Ok file) new e = (file, refl, cc)
    of_file (Err fault) new e = absurd cc

    pub opens : (new : Begun) (ys : List Begun) (rows : Rows (Option Lineage)) → began super (found files super) ≡ Ok new → row super met ≡ None → ys ≡ (xs ++ top ∷ []) ++ new ∷ [] → Puts met new.name None rows → GoesOn ys rows
    opens new ys rows b r e p =
        let f = of_file (found files super) new b in
        subst (λ (zs : List Begun). GoesOn zs rows) (sym e)
        (subst (λ (x : Begun). GoesOn ((xs ++ top ∷ []) ++ x ∷ []) rows) f.2
        (is_opened set files root xs top met l super f.0 rows (sym s) r f.1 (subst (λ (x : Begun). Puts met x.name None rows) (sym f.2) p)))
