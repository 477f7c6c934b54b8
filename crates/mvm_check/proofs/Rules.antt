-- Rules that are kept, and those of the values of a list.
use Rattle.std.proofs.Common.{◌≡◌, ℕ, ◌+◌, Bool, true, false, List, [], ◌∷◌, Result, Ok, Err, refl, subst, ⊎_elim}
use Rattle.std.specs.Prelude.{◌||◌, ◌==◌}
use Rattle.std.specs.List.{All}
use Rattle.std.proofs.lemmas.List.Elements.{All-nil, All-cons, All-head, All-tail}
use Rattle.std.proofs.lemmas.Bool.{eqb-true, eq-eqb, or_cases}
use Rattle.mvm_base.specs.Rules.{expect, ◌and_then◌, each, each_from}
use Rattle.mvm_check.specs.Starts.{is_start}
use Rattle.mvm_check.specs.Check.{told}
use Rattle.mvm_check.specs.declared.fault.CheckFault.{CheckFault}
use Rattle.mvm_check.specs.declared.fault.CheckKind.{CheckKind}

pub holds_true : {E : Type 0} (b : Bool) (fault : E) → expect b fault ≡ Ok tt → b ≡ true
holds_true true fault e = refl
holds_true false fault e = absurd cc

pub holds_again : {E : Type 0} (b : Bool) (fault : E) → b ≡ true → expect b fault ≡ Ok tt
holds_again b fault e = rw e refl

pub both : {E : Type 0} (r next : Result (Unit {0}) E) → (r and_then next) ≡ Ok tt → (r ≡ Ok tt) × (next ≡ Ok tt)
both (Ok done) next e = (refl, e)
both (Err fault) next e = absurd cc

pub both_again : {E : Type 0} (r next : Result (Unit {0}) E) → r ≡ Ok tt → next ≡ Ok tt → (r and_then next) ≡ Ok tt
both_again r next h k = rw (h, k) refl

pub told_ok : (method at : ℕ) (r : Result (Unit {0}) CheckKind) → told method at r ≡ Ok tt → r ≡ Ok tt
told_ok method at (Ok done) e = refl
told_ok method at (Err kind) e = absurd cc

pub told_again : (method at : ℕ) (r : Result (Unit {0}) CheckKind) → r ≡ Ok tt → told method at r ≡ Ok tt
told_again method at r e = rw e refl

-- ---- each of a list of places

pub here : (x : ℕ) (xs : List ℕ) → is_start (x ∷ xs) x ≡ true
here x xs = rw (eq-eqb x x refl) refl

pub later : (x : ℕ) (xs : List ℕ) (place : ℕ) → is_start xs place ≡ true → is_start (x ∷ xs) place ≡ true
later x xs place h = by (x == place)
  where
    by : (b : Bool) → (b || is_start xs place) ≡ true
    by true = refl
    by false = h

module _ (rule : ℕ → Result (Unit {0}) CheckFault) where
  pub each_place : (xs : List ℕ) (place : ℕ) → each rule xs ≡ Ok tt → is_start xs place ≡ true → rule place ≡ Ok tt
  each_place [] place e h = absurd cc
  each_place (x ∷ xs) place e h =
      let parts = both (rule x) (each rule xs) e in
      let P : ℕ → Type 0 = λ n. rule n ≡ Ok tt in
      ⊎_elim
      (λ same. subst P (eqb-true x place same) parts.0)
      (λ more. each_place xs place parts.1 more)
      (or_cases (x == place) (is_start xs place) h)

  pub each_place_again : (xs : List ℕ) → ((place : ℕ) → is_start xs place ≡ true → rule place ≡ Ok tt) → each rule xs ≡ Ok tt
  each_place_again [] h = refl
  each_place_again (x ∷ xs) h =
      both_again (rule x) (each rule xs) (h x (here x xs)) (each_place_again xs (λ place k. h place (later x xs place k)))

-- ---- each of a numbered list

module _ {A : Type 0} (P : A → Type 0) (rule : ℕ → A → Result (Unit {0}) CheckFault) where
  pub each_numbered : ((n : ℕ) (x : A) → rule n x ≡ Ok tt → P x) → (n : ℕ) (xs : List A) → each_from n rule xs ≡ Ok tt → All P xs
  each_numbered f n [] e = All-nil P
  each_numbered f n (x ∷ xs) e =
      let parts = both (rule n x) (each_from (n + 1) rule xs) e in
      All-cons P x xs (f n x parts.0) (each_numbered f (n + 1) xs parts.1)

  pub each_numbered_again : ((n : ℕ) (x : A) → P x → rule n x ≡ Ok tt) → (n : ℕ) (xs : List A) → All P xs → each_from n rule xs ≡ Ok tt
  each_numbered_again f n [] h = refl
  each_numbered_again f n (x ∷ xs) h =
      both_again (rule n x) (each_from (n + 1) rule xs) (f n x (All-head P x xs h)) (each_numbered_again f (n + 1) xs (All-tail P x xs h))
