-- Steps of which the first fault is the answer, taken apart.
use Rattle.std.proofs.Common.{◌≡◌, ℕ, Bool, true, false, List, ◌∷◌, Result, Ok, Err, refl, ap, ◌∙◌}
use Rattle.mvm_base.specs.Answers.{◌>>=◌}
use Rattle.mvm_layout.specs.declared.parts.Parts.{Parts}
use Rattle.mvm_set.specs.Names.{superclass, superinterfaces}
use Rattle.mvm_set.specs.Family.{Family, family, Families, more, file}
use Rattle.mvm_table.specs.Load.{may_stand, super_loaded, all_loaded, over}
use Rattle.mvm_table.specs.declared.fault.LoadFault.{LoadFault}

pub bound : {A B : Type 0} (r : Result A LoadFault) (f : A → Result B LoadFault) (y : B) → (r >>= f) ≡ Ok y → (x : A) × (r ≡ Ok x) × (f x ≡ Ok y)
bound (Ok x) f y e = (x, refl, e)
bound (Err fault) f y e = absurd cc

abbrev ok : Family → Result Family LoadFault
ok one = Ok one

stands_same : (r : Result (Unit {0}) LoadFault) (one other : Family) → (r >>= λ stands. Ok one) ≡ Ok other → one ≡ other
stands_same (Ok u) one other e = cc
stands_same (Err fault) one other e = absurd cc

-- a super that may stand above is the one that was loaded
pub super_of : (load : List ℕ → Result Family LoadFault) (sort : Bool) (name super : List ℕ) (one : Family) → super_loaded load sort name super ≡ Ok one → load super ≡ Ok one
super_of load sort name super one e =
    let a = bound (load super) (λ x. may_stand sort name (file x) >>= λ stands. Ok x) one e in
    let s : a.0 ≡ one = stands_same (may_stand sort name (file a.0)) a.0 one a.2 in
    a.1 ∙ ap ok s

-- of supers that were loaded: the first, and the others
pub record IsMore (load : List ℕ → Result Family LoadFault) (sort : Bool) (name super : List ℕ) (supers : List (List ℕ)) (ones : Families) : Type 0 where
  pub one : Family
  pub others : Families
  pub first : super_loaded load sort name super ≡ Ok one
  pub rest : all_loaded load sort name supers ≡ Ok others
  pub are : more one others ≡ ones

pub all_more : (load : List ℕ → Result Family LoadFault) (sort : Bool) (name super : List ℕ) (supers : List (List ℕ)) (ones : Families) → all_loaded load sort name (super ∷ supers) ≡ Ok ones → IsMore load sort name super supers ones
all_more load sort name super supers ones e =
    let a = bound (super_loaded load sort name super) (λ x. all_loaded load sort name supers >>= λ ys. Ok (more x ys)) ones e in
    let b = bound (all_loaded load sort name supers) (λ ys. Ok (more a.0 ys)) ones a.2 in
    record { one = a.0; others = b.0; first = a.1; rest = b.1; are = cc }

-- of a class that was loaded: its supers
pub record IsOver (load : List ℕ → Result Family LoadFault) (name : List ℕ) (parts : Parts) (one : Family) : Type 0 where
  pub above : Families
  pub across : Families
  pub one_above : all_loaded load false name (superclass parts) ≡ Ok above
  pub all_across : all_loaded load true name (superinterfaces parts) ≡ Ok across
  pub is : family parts above across ≡ one

pub over_parts : (load : List ℕ → Result Family LoadFault) (name : List ℕ) (parts : Parts) (one : Family) → over load name parts ≡ Ok one → IsOver load name parts one
unfolding over
over_parts load name parts one e =
    let a = bound (all_loaded load false name (superclass parts)) (λ above. all_loaded load true name (superinterfaces parts) >>= λ across. Ok (family parts above across)) one e in
    let b = bound (all_loaded load true name (superinterfaces parts)) (λ across. Ok (family parts a.0 across)) one a.2 in
    record { above = a.0; across = b.0; one_above = a.1; all_across = b.1; is = cc }
