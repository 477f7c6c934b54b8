-- Each class in the tree of a class that was loaded is the one that loading gives for its name.
use Rattle.std.proofs.Common.{◌≡◌, ℕ, zero, suc, ◌<◌, Bool, true, false, List, [], ◌∷◌, ◌++◌, length, Option, Some, Result, Ok, sym, ap, subst, ◌∙◌}
use Rattle.std.specs.Prelude.{option_and_then}
use Rattle.mvm_layout.specs.declared.parts.Parts.{Parts}
use Rattle.mvm_set.specs.Names.{own_name, superclass, superinterfaces}
use Rattle.mvm_set.specs.Family.{Family, family, Families, none, name, visited, all_visited}
use Rattle.mvm_set.specs.Once.{AreKept}
use Rattle.mvm_table.specs.Load.{Find, is_in, all_loaded, over, load_on}
use Rattle.mvm_table.specs.Loads.{kept_by, ok_of}
use Rattle.mvm_table.specs.declared.fault.LoadFault.{LoadFault}
use Rattle.mvm_table.proofs.Bound.{super_of, all_more, over_parts}
use Rattle.mvm_table.proofs.Paths.{loaded_parts, loads_alone}
use Rattle.mvm_table.proofs.Again.{loaded_named}

kept-append : (kept : List ℕ → Option Family) (xs ys : List Family) → AreKept name kept xs → AreKept name kept ys → AreKept name kept (xs ++ ys)
kept-append kept [] ys a b = b
kept-append kept (x ∷ xs) ys a b = (a.0, kept-append kept xs ys a.1 b)

-- what a load gives has only classes that are kept under their names
abbrev Sound : (List ℕ → Option Family) → (List ℕ → Result Family LoadFault) → Type 0
Sound kept load = (called : List ℕ) (one : Family) → load called ≡ Ok one → AreKept name kept (visited one)

all_sound : (kept : List ℕ → Option Family) (load : List ℕ → Result Family LoadFault) (sort : Bool) (called : List ℕ) (supers : List (List ℕ)) (ones : Families) → Sound kept load → all_loaded load sort called supers ≡ Ok ones
    → AreKept name kept (all_visited ones)
unfolding all_visited
all_sound kept load sort called [] ones s e = let q : none ≡ ones = cc in subst (λ (z : Families). AreKept name kept (all_visited z)) q tt
all_sound kept load sort called (super ∷ supers) ones s e =
    let m = all_more load sort called super supers ones e in
    let one = s super m.one (super_of load sort called super m.one m.first) in
    subst (λ (z : Families). AreKept name kept (all_visited z)) m.are (kept-append kept (visited m.one) (all_visited m.others) one (all_sound kept load sort called supers m.others s m.rest))

over_sound : (kept : List ℕ → Option Family) (load : List ℕ → Result Family LoadFault) (called : List ℕ) (parts : Parts) (one : Family) → Sound kept load → over load called parts ≡ Ok one
    → option_and_then kept (name one) ≡ Some one → AreKept name kept (visited one)
unfolding visited
over_sound kept load called parts one s e k =
    let o = over_parts load called parts one e in
    let u = all_sound kept load false called (superclass parts) o.above s o.one_above in
    let v = all_sound kept load true called (superinterfaces parts) o.across s o.all_across in
    let self : option_and_then kept (name (family parts o.above o.across)) ≡ Some (family parts o.above o.across) =
    subst (λ (z : Family). option_and_then kept (name z) ≡ Some z) (sym o.is) k in
    subst (λ (z : Family). AreKept name kept (visited z)) o.is (self, kept-append kept (all_visited o.across) (all_visited o.above) v u)

module _ (find : Find) (names : List (List ℕ))
    (known : (called : List ℕ) (file : Parts) → find called ≡ Ok file → is_in names called ≡ true)
    (named : (called : List ℕ) (file : Parts) → find called ≡ Ok file → own_name file ≡ Some called)
    (m : ℕ) (enough : length names < m) where
  abbrev loading : List ℕ → Result Family LoadFault
  loading called = load_on m find [] called

  sound : (n : ℕ) (path : List (List ℕ)) → Sound (kept_by loading) (load_on n find path)
  unfolding load_on
  sound zero path called one e = absurd cc
  sound (suc n) path called one e =
      let l = loaded_parts n find path called one e in
      let alone : loading called ≡ Ok one = loads_alone find names known (suc n) m path called one enough e in
      let k : option_and_then (kept_by loading) (name one) ≡ Some one =
      ap (option_and_then (kept_by loading)) (loaded_named find named (suc n) path called one e) ∙ ap ok_of alone in
      over_sound (kept_by loading) (load_on n find (path ++ called ∷ [])) called l.parts one (sound n (path ++ called ∷ [])) l.is_over k

  pub load_kept : (called : List ℕ) (one : Family) → loading called ≡ Ok one → AreKept name (kept_by loading) (visited one)
  load_kept called one e = sound m [] called one e
