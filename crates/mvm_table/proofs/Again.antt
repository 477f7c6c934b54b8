-- A class that was loaded loads again on any path of which no name stands in what the class inherits from.
use Rattle.std.proofs.Common.{◌≡◌, ℕ, zero, suc, ◌≤◌, Bool, true, false, List, [], ◌∷◌, ◌++◌, Option, Some, None, Result, Ok, Err, refl, sym, ap, subst, ◌∙◌, arith}
use Rattle.std.specs.Prelude.{◌||◌, not}
use Rattle.mvm_base.specs.Answers.{◌>>=◌}
use Rattle.mvm_base.specs.Rules.{expect}
use Rattle.mvm_layout.specs.declared.parts.Parts.{Parts}
use Rattle.mvm_set.specs.Names.{own_name, superclass, superinterfaces}
use Rattle.mvm_set.specs.Family.{Family, family, Families, file, name, visited, all_visited}
use Rattle.mvm_table.specs.Load.{Find, is_in, may_stand, super_loaded, all_loaded, over, loaded_by, load_on}
use Rattle.mvm_table.specs.declared.fault.LoadFault.{LoadFault}
use Rattle.mvm_table.specs.declared.fault.LoadFault.TheVariants.{Circular}
use Rattle.mvm_table.proofs.Weights.{is_in-longer}
use Rattle.mvm_table.proofs.Bound.{super_of, all_more, over_parts}
use Rattle.mvm_table.proofs.Paths.{loaded_parts}

abbrev stopped : Result (Unit {0}) LoadFault
stopped = Err Circular

abbrev passed : Result (Unit {0}) LoadFault
passed = Ok tt

-- a name that the one path has, if the other has it
abbrev pub Fine : List (List ℕ) → List (List ℕ) → Option (List ℕ) → Type 0
Fine part path (Some name) = is_in path name ≡ true → is_in part name ≡ true
Fine part path None = Unit {0}

abbrev pub AreFine : List (List ℕ) → List (List ℕ) → List Family → Type 0
AreFine part path [] = Unit {0}
AreFine part path (one ∷ ones) = Fine part path (name one) × AreFine part path ones

fine_parts : (part path : List (List ℕ)) (xs ys : List Family) → AreFine part path (xs ++ ys) → AreFine part path xs × AreFine part path ys
fine_parts part path [] ys e = (tt, e)
fine_parts part path (x ∷ xs) ys e = let r = fine_parts part path xs ys e.1 in ((e.0, r.0), r.1)

on_or : (a b c : Bool) → (c ≡ true → a ≡ true) → (c || b) ≡ true → (a || b) ≡ true
on_or true b c h e = refl
on_or false b true h e = absurd (let k = h refl in cc)
on_or false b false h e = e

fine-longer : (part path : List (List ℕ)) (new : List ℕ) (other : Option (List ℕ)) → Fine part path other → Fine (part ++ new ∷ []) (path ++ new ∷ []) other
fine-longer part path new None w = tt
fine-longer part path new (Some other) w = λ e.
    is_in-longer part new other ∙ on_or (is_in part other) (is_in (new ∷ []) other) (is_in path other) w (sym (is_in-longer path new other) ∙ e)

are_fine-longer : (part path : List (List ℕ)) (new : List ℕ) (ones : List Family) → AreFine part path ones → AreFine (part ++ new ∷ []) (path ++ new ∷ []) ones
are_fine-longer part path new [] w = tt
are_fine-longer part path new (one ∷ ones) w = (fine-longer part path new (name one) w.0, are_fine-longer part path new ones w.1)

still_off : (part path : List (List ℕ)) (new : List ℕ) → Fine part path (Some new) → expect (not (is_in part new)) Circular ≡ passed → expect (not (is_in path new)) Circular ≡ passed
still_off part path new w e = by (is_in path new) refl
  where
    by : (b : Bool) → is_in path new ≡ b → expect (not b) Circular ≡ passed
    by true h = let k = w h in absurd (let m : stopped ≡ passed = ap (λ (b : Bool). expect (not b) Circular) (sym k) ∙ e in cc)
    by false h = refl

abbrev ok_all : Families → Result Families LoadFault
ok_all ones = Ok ones

abbrev ok_one : Family → Result Family LoadFault
ok_one one = Ok one

module _ (part path : List (List ℕ)) (one other : List ℕ → Result Family LoadFault)
    (keeps : (name : List ℕ) (x : Family) → one name ≡ Ok x → AreFine part path (visited x) → other name ≡ Ok x) where
  super_again : (sort : Bool) (name super : List ℕ) (x : Family) → super_loaded one sort name super ≡ Ok x → AreFine part path (visited x) → super_loaded other sort name super ≡ Ok x
  super_again sort name super x e w =
      let stands = λ (y : Family). may_stand sort name (file y) >>= λ stands. Ok y in
      let l = super_of one sort name super x e in
      ap (λ (r : Result Family LoadFault). r >>= stands) (keeps super x l w ∙ sym l) ∙ e

  all_again : (sort : Bool) (name : List ℕ) (supers : List (List ℕ)) (xs : Families) → all_loaded one sort name supers ≡ Ok xs → AreFine part path (all_visited xs) → all_loaded other sort name supers ≡ Ok xs
  unfolding all_visited
  all_again sort name [] xs e w = e
  all_again sort name (super ∷ supers) xs e w =
      let m = all_more one sort name super supers xs e in
      let v = fine_parts part path (visited m.one) (all_visited m.others) (subst (λ (z : Families). AreFine part path (all_visited z)) (sym m.are) w) in
      let s = super_again sort name super m.one m.first v.0 in
      let r = all_again sort name supers m.others m.rest v.1 in
      rw (s, r) (ap ok_all m.are)

  over_again : (name : List ℕ) (parts : Parts) (x : Family) → over one name parts ≡ Ok x → AreFine part path (visited x) → over other name parts ≡ Ok x
  unfolding over visited
  over_again name parts x e w =
      let o = over_parts one name parts x e in
      let v = fine_parts part path (all_visited o.across) (all_visited o.above) (subst (λ (z : Family). AreFine part path (visited z)) (sym o.is) w).1 in
      let s = all_again false name (superclass parts) o.above o.one_above v.1 in
      let r = all_again true name (superinterfaces parts) o.across o.all_across v.0 in
      rw (s, r) (ap ok_one o.is)

pub over_file : (load : List ℕ → Result Family LoadFault) (name : List ℕ) (parts : Parts) (x : Family) → over load name parts ≡ Ok x → file x ≡ parts
over_file load name parts x e = let o = over_parts load name parts x e in ap file (sym o.is)

first_fine : (part path : List (List ℕ)) (x : Family) → AreFine part path (visited x) → Fine part path (name x)
unfolding visited
first_fine part path (family p u c) w = w.0

module _ (find : Find) (named : (name : List ℕ) (file : Parts) → find name ≡ Ok file → own_name file ≡ Some name) where
  -- a class that was loaded is called by its name
  pub loaded_named : (n : ℕ) (path : List (List ℕ)) (called : List ℕ) (one : Family) → load_on n find path called ≡ Ok one → name one ≡ Some called
  unfolding load_on
  loaded_named zero path called one e = absurd cc
  loaded_named (suc n) path called one e =
      let l = loaded_parts n find path called one e in
      ap own_name (over_file (load_on n find (path ++ called ∷ [])) called l.parts one l.is_over) ∙ named called l.parts l.is_found

  -- a class that was loaded loads again on a path that has no other name of its tree
  pub again : (n m : ℕ) (part path : List (List ℕ)) (called : List ℕ) (one : Family) → n ≤ m → load_on n find part called ≡ Ok one → AreFine part path (visited one) → load_on m find path called ≡ Ok one
  unfolding load_on loaded_by
  again zero m part path called one h e w = absurd cc
  again (suc n) zero part path called one h e w = absurd (omega arith)
  again (suc n) (suc m) part path called one h e w =
      let l = loaded_parts n find part called one e in
      let i : name one ≡ Some called = loaded_named (suc n) part called one e in
      let g = still_off part path called (subst (Fine part path) i (first_fine part path one w)) l.is_off in
      let s = over_again (part ++ called ∷ []) (path ++ called ∷ []) (load_on n find (part ++ called ∷ [])) (load_on m find (path ++ called ∷ []))
      (λ other x k v. again n m (part ++ called ∷ []) (path ++ called ∷ []) other x (omega arith) k v)
      called l.parts one l.is_over (are_fine-longer part path called (visited one) w) in
      rw (l.is_found, g) s
