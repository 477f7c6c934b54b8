-- What is loaded on a path is loaded so on a part of it, and with more names left.
use Rattle.std.proofs.Common.{◌≡◌, ℕ, zero, suc, ◌+◌, ◌≤◌, ◌<◌, Bool, true, false, List, [], ◌∷◌, ◌++◌, length, Result, Ok, Err, refl, sym, ap, ◌∙◌, arith}
use Rattle.std.specs.Prelude.{◌||◌, not}
use Rattle.mvm_base.specs.Answers.{◌>>=◌}
use Rattle.mvm_base.specs.Rules.{expect}
use Rattle.mvm_layout.specs.declared.parts.Parts.{Parts}
use Rattle.mvm_set.specs.Names.{superclass, superinterfaces}
use Rattle.mvm_set.specs.Family.{Family, Families, file}
use Rattle.mvm_table.specs.Load.{Find, is_in, may_stand, super_loaded, all_loaded, over, loaded_by, load_on}
use Rattle.mvm_table.specs.declared.fault.LoadFault.{LoadFault}
use Rattle.mvm_table.specs.declared.fault.LoadFault.TheVariants.{Circular}
use Rattle.mvm_table.proofs.Weights.{is_in-longer}
use Rattle.mvm_table.proofs.Fuel.{any_more}
use Rattle.mvm_table.proofs.Bound.{bound, all_more, over_parts}

abbrev stopped : Result (Unit {0}) LoadFault
stopped = Err Circular

abbrev passed : Result (Unit {0}) LoadFault
passed = Ok tt

-- what loads one way loads another
abbrev Keeps : (List ℕ → Result Family LoadFault) → (List ℕ → Result Family LoadFault) → Type 0
Keeps one other = (name : List ℕ) (x : Family) → one name ≡ Ok x → other name ≡ Ok x

super_keeps : (one other : List ℕ → Result Family LoadFault) (sort : Bool) (name super : List ℕ) (x : Family) → Keeps one other → super_loaded one sort name super ≡ Ok x → super_loaded other sort name super ≡ Ok x
super_keeps one other sort name super x k e =
    let stands = λ (y : Family). may_stand sort name (file y) >>= λ stands. Ok y in
    let b = bound (one super) stands x e in
    ap (λ (r : Result Family LoadFault). r >>= stands) (k super b.0 b.1) ∙ b.2

all_keep : (one other : List ℕ → Result Family LoadFault) (sort : Bool) (name : List ℕ) (supers : List (List ℕ)) (xs : Families) → Keeps one other → all_loaded one sort name supers ≡ Ok xs → all_loaded other sort name supers ≡ Ok xs
all_keep one other sort name [] xs k e = e
all_keep one other sort name (super ∷ supers) xs k e =
    let m = all_more one sort name super supers xs e in
    let s = super_keeps one other sort name super m.one k m.first in
    let r = all_keep one other sort name supers m.others k m.rest in
    rw (s, r) (ap ok m.are)
  where
    ok : Families → Result Families LoadFault
    ok ones = Ok ones

over_keeps : (one other : List ℕ → Result Family LoadFault) (name : List ℕ) (parts : Parts) (x : Family) → Keeps one other → over one name parts ≡ Ok x → over other name parts ≡ Ok x
unfolding over
over_keeps one other name parts x k e =
    let o = over_parts one name parts x e in
    let s = all_keep one other false name (superclass parts) o.above k o.one_above in
    let r = all_keep one other true name (superinterfaces parts) o.across k o.all_across in
    rw (s, r) (ap ok o.is)
  where
    ok : Family → Result Family LoadFault
    ok one = Ok one

-- each name on the one path is on the other
abbrev Within : List (List ℕ) → List (List ℕ) → Type 0
Within part path = (name : List ℕ) → is_in part name ≡ true → is_in path name ≡ true

on_or : (a b c : Bool) → (c ≡ true → a ≡ true) → (c || b) ≡ true → (a || b) ≡ true
on_or true b c h e = refl
on_or false b true h e = absurd (let k = h refl in cc)
on_or false b false h e = e

within-longer : (part path : List (List ℕ)) (name : List ℕ) → Within part path → Within (part ++ name ∷ []) (path ++ name ∷ [])
within-longer part path name w other e =
    is_in-longer path name other ∙ on_or (is_in path other) (is_in (name ∷ []) other) (is_in part other) (w other) (sym (is_in-longer part name other) ∙ e)

off : (part path : List (List ℕ)) (name : List ℕ) → Within part path → expect (not (is_in path name)) Circular ≡ passed → expect (not (is_in part name)) Circular ≡ passed
off part path name w e = by (is_in part name) refl
  where
    by : (b : Bool) → is_in part name ≡ b → expect (not b) Circular ≡ passed
    by true h = let k = w name h in absurd (let m : stopped ≡ passed = ap (λ (b : Bool). expect (not b) Circular) (sym k) ∙ e in cc)
    by false h = refl

unit_ok : (r : Result (Unit {0}) LoadFault) (u : Unit {0}) → r ≡ Ok u → r ≡ passed
unit_ok r u e = e

-- of a class that was loaded on a path: its file, and its supers
pub record IsLoadedOn (n : ℕ) (find : Find) (path : List (List ℕ)) (name : List ℕ) (one : Family) : Type 0 where
  pub parts : Parts
  pub is_found : find name ≡ Ok parts
  pub is_off : expect (not (is_in path name)) Circular ≡ passed
  pub is_over : over (load_on n find (path ++ name ∷ [])) name parts ≡ Ok one

pub loaded_parts : (n : ℕ) (find : Find) (path : List (List ℕ)) (name : List ℕ) (one : Family) → load_on (suc n) find path name ≡ Ok one → IsLoadedOn n find path name one
unfolding load_on loaded_by
loaded_parts n find path name one e =
    let f = bound (find name) (λ parts. expect (not (is_in path name)) Circular >>= λ new. over (load_on n find (path ++ name ∷ [])) name parts) one e in
    let o = bound (expect (not (is_in path name)) Circular) (λ new. over (load_on n find (path ++ name ∷ [])) name f.0) one f.2 in
    record { parts = f.0; is_found = f.1; is_off = unit_ok (expect (not (is_in path name)) Circular) o.0 o.1; is_over = o.2 }

pub kept : (n m : ℕ) (find : Find) (part path : List (List ℕ)) (name : List ℕ) (one : Family) → n ≤ m → Within part path → load_on n find path name ≡ Ok one → load_on m find part name ≡ Ok one
unfolding load_on loaded_by
kept zero m find part path name one h w e = absurd cc
kept (suc n) zero find part path name one h w e = absurd (omega arith)
kept (suc n) (suc m) find part path name one h w e =
    let l = loaded_parts n find path name one e in
    let g = off part path name w l.is_off in
    let s = over_keeps (load_on n find (path ++ name ∷ [])) (load_on m find (part ++ name ∷ [])) name l.parts one (λ other x k. kept n m find (part ++ name ∷ []) (path ++ name ∷ []) other x (omega arith) (within-longer part path name w) k) l.is_over in
    rw (l.is_found, g) s

module _ (find : Find) (names : List (List ℕ)) (known : (name : List ℕ) (file : Parts) → find name ≡ Ok file → is_in names name ≡ true) where
  -- what is loaded on a path is what loading gives for its name
  pub loads_alone : (n m : ℕ) (path : List (List ℕ)) (name : List ℕ) (one : Family) → length names < m → load_on n find path name ≡ Ok one → load_on m find [] name ≡ Ok one
  loads_alone n m path name one h e =
      let a = kept n (n + m) find [] path name one (omega arith) (λ other k. absurd cc) e in
      any_more find names known m (n + m) [] name h (omega (arith, h)) ∙ a
