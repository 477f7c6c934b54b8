-- A load does not depend on how many more names there can be on its path, once there are enough.
use Rattle.std.proofs.Common.{◌≡◌, ℕ, zero, suc, ◌<◌, Bool, true, false, List, [], ◌∷◌, ◌++◌, length, Result, Ok, Err, refl, ap, arith}
use Rattle.std.specs.Prelude.{not}
use Rattle.mvm_base.specs.Answers.{◌>>=◌}
use Rattle.mvm_base.specs.Rules.{expect}
use Rattle.mvm_layout.specs.declared.parts.Parts.{Parts}
use Rattle.mvm_set.specs.Family.{Family}
use Rattle.mvm_table.specs.Load.{Find, is_in, over, loaded_by, load_on}
use Rattle.mvm_table.specs.declared.fault.LoadFault.{LoadFault}
use Rattle.mvm_table.specs.declared.fault.LoadFault.TheVariants.{Circular}
use Rattle.mvm_table.proofs.Weights.{unmet, unmet-new, unmet-most}

-- how the supers are loaded is of account only where the name is there and not on the path
by_supers : (find : Find) (path : List (List ℕ)) (name : List ℕ) (one other : List ℕ → Result Family LoadFault)
    → ((file : Parts) → find name ≡ Ok file → is_in path name ≡ false → one ≡ other)
    → loaded_by one find path name ≡ loaded_by other find path name
unfolding loaded_by
by_supers find path name one other h = by (find name) refl
  where
    at_path : (file : Parts) → find name ≡ Ok file → (b : Bool) → is_in path name ≡ b
        → (expect (not b) Circular >>= λ new. over one name file) ≡ (expect (not b) Circular >>= λ new. over other name file)
    at_path file f true e = refl
    at_path file f false e = ap (λ (load : List ℕ → Result Family LoadFault). over load name file) (h file f e)

    by : (r : Result Parts LoadFault) → find name ≡ r
        → (r >>= λ file. expect (not (is_in path name)) Circular >>= λ new. over one name file) ≡ (r >>= λ file. expect (not (is_in path name)) Circular >>= λ new. over other name file)
    by (Err fault) f = refl
    by (Ok file) f = at_path file f (is_in path name) refl

module _ (find : Find) (names : List (List ℕ)) (known : (name : List ℕ) (file : Parts) → find name ≡ Ok file → is_in names name ≡ true) where
  pub enough : (n m : ℕ) (path : List (List ℕ)) (name : List ℕ) → unmet path names < n → unmet path names < m → load_on n find path name ≡ load_on m find path name
  unfolding load_on
  enough zero m path name a b = absurd (omega arith)
  enough (suc n) zero path name a b = absurd (omega arith)
  enough (suc n) (suc m) path name a b =
      by_supers find path name (load_on n find (path ++ name ∷ [])) (load_on m find (path ++ name ∷ []))
      (λ file f off j super.
      let less = unmet-new path names name off (known name file f) in
      enough n m (path ++ name ∷ []) super (omega (arith, less)) (omega (arith, less)) j)

  -- with more than all names left, the supers are loaded with as many
  pub steady : (n : ℕ) (path : List (List ℕ)) (name : List ℕ) → length names < n → load_on n find path name ≡ loaded_by (load_on n find (path ++ name ∷ [])) find path name
  unfolding load_on
  steady zero path name h = absurd (omega arith)
  steady (suc n) path name h =
      by_supers find path name (load_on n find (path ++ name ∷ [])) (load_on (suc n) find (path ++ name ∷ []))
      (λ file f off j super.
      let less = unmet-new path names name off (known name file f) in
      let all = unmet-most path names in
      enough n (suc n) (path ++ name ∷ []) super (omega (arith, less, all, h)) (omega (arith, less, all, h)) j)

  -- any number above that of the names gives the same
  pub any_more : (n m : ℕ) (path : List (List ℕ)) (name : List ℕ) → length names < n → length names < m → load_on n find path name ≡ load_on m find path name
  any_more n m path name a b =
      let all = unmet-most path names in
      enough n m path name (omega (arith, all, a)) (omega (arith, all, b))
