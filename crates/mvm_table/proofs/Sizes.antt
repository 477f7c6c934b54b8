-- A class that was loaded does not stand in the tree of one of its supers: its tree is greater than theirs.
use Rattle.std.proofs.Common.{◌≡◌, ℕ, suc, ◌+◌, ◌<◌, ◌≤◌, Bool, true, false, List, [], ◌∷◌, ◌++◌, length, Option, Some, None, Result, Ok, Err, refl, sym, ap, subst, ◌∙◌, arith, inl, inr}
use Rattle.std.specs.Prelude.{◌||◌, option_and_then}
use Rattle.std.specs.Str.{bytes_eq}
use Rattle.std.proofs.lemmas.Slice.Eq.{bytes_eq-Decides}
use Rattle.mvm_layout.specs.declared.parts.Parts.{Parts}
use Rattle.mvm_set.specs.Names.{own_name, superclass, superinterfaces}
use Rattle.mvm_set.specs.Family.{Family, family, Families, none, more, name, visited, all_visited}
use Rattle.mvm_set.specs.Once.{AreKept}
use Rattle.mvm_table.specs.Load.{Find, is_in, all_loaded, load_on}
use Rattle.mvm_table.specs.Cost.{IsSuper}
use Rattle.mvm_table.specs.Loads.{kept_by, ok_of}
use Rattle.mvm_table.specs.declared.fault.LoadFault.{LoadFault}
use Rattle.mvm_table.proofs.Bound.{super_of, all_more, over_parts}
use Rattle.mvm_table.proofs.Paths.{loaded_parts, loads_alone}
use Rattle.mvm_table.proofs.Again.{Fine, AreFine, again}
use Rattle.mvm_table.proofs.Kept.{load_kept}

mutual
  size : Family → ℕ
  size (family parts above across) = suc (sizes above + sizes across)

  sizes : Families → ℕ
  sizes none = 0
  sizes (more one others) = size one + sizes others

abbrev AreSmall : ℕ → List Family → Type 0
AreSmall n [] = Unit {0}
AreSmall n (one ∷ ones) = (size one ≤ n) × AreSmall n ones

small-append : (n : ℕ) (xs ys : List Family) → AreSmall n xs → AreSmall n ys → AreSmall n (xs ++ ys)
small-append n [] ys a b = b
small-append n (x ∷ xs) ys a b = (a.0, small-append n xs ys a.1 b)

mutual
  unfolding visited size

  visited_small : (n : ℕ) (one : Family) → size one ≤ n → AreSmall n (visited one)
  visited_small n (family parts above across) h =
      (h, small-append n (all_visited across) (all_visited above) (all_visited_small n across (omega (arith, h))) (all_visited_small n above (omega (arith, h))))

  all_visited_small : (n : ℕ) (ones : Families) → sizes ones ≤ n → AreSmall n (all_visited ones)
  all_visited_small n none h = tt
  all_visited_small n (more one others) h =
      small-append n (visited one) (all_visited others) (visited_small n one (omega (arith, h))) (all_visited_small n others (omega (arith, h)))

one_more : (n : ℕ) → n + 1 ≡ suc n
one_more n = omega arith

member_size : (load : List ℕ → Result Family LoadFault) (sort : Bool) (called : List ℕ) (supers : List (List ℕ)) (ones : Families) (super : List ℕ) → all_loaded load sort called supers ≡ Ok ones → is_in supers super ≡ true
    → (one : Family) × (load super ≡ Ok one) × (size one ≤ sizes ones)
unfolding size
member_size load sort called [] ones super e k = absurd cc
member_size load sort called (other ∷ supers) ones super e k =
    let m = all_more load sort called other supers ones e in
    by m.one m.others (ap sizes m.are) (super_of load sort called other m.one m.first) (bytes_eq other super) refl k (member_size load sort called supers m.others super m.rest)
  where
    by : (one : Family) (others : Families) → sizes (more one others) ≡ sizes ones → load other ≡ Ok one → (b : Bool) → bytes_eq other super ≡ b → (b || is_in supers super) ≡ true
        → (is_in supers super ≡ true → (x : Family) × (load super ≡ Ok x) × (size x ≤ sizes others)) → (x : Family) × (load super ≡ Ok x) × (size x ≤ sizes ones)
    by one others total l true h k rest =
        let same : other ≡ super = (bytes_eq-Decides other super).0 h in
        (one, subst (λ (n : List ℕ). load n ≡ Ok one) same l, omega (arith, total))
    by one others total l false h k rest =
        let r = rest k in
        (r.0, r.1, omega (arith, total, r.2))

module _ (find : Find) where
  -- the class of the one name has a super of the other
  abbrev pub LeadsTo : List ℕ → List ℕ → Type 0
  LeadsTo called super = (file : Parts) × (find called ≡ Ok file) × IsSuper file super

  -- from a name over these names to a super
  abbrev pub Steps : List ℕ → List (List ℕ) → List ℕ → Type 0
  Steps called [] super = LeadsTo called super
  Steps called (next ∷ rest) super = LeadsTo called next × Steps next rest super

  abbrev pub LeadsOver : List (List ℕ) → List ℕ → Type 0
  LeadsOver [] super = Unit {0}
  LeadsOver (called ∷ rest) super = Steps called rest super

module _ (find : Find) (names : List (List ℕ))
    (known : (called : List ℕ) (file : Parts) → find called ≡ Ok file → is_in names called ≡ true)
    (named : (called : List ℕ) (file : Parts) → find called ≡ Ok file → own_name file ≡ Some called)
    (n : ℕ) (enough : length names < n + 1) where
  abbrev loading : List ℕ → Result Family LoadFault
  loading called = load_on (n + 1) find [] called

  child : (called super : List ℕ) (one : Family) → loading called ≡ Ok one → LeadsTo find called super → (other : Family) × (loading super ≡ Ok other) × (size other < size one)
  unfolding size
  child called super one e l =
      let p = loaded_parts n find [] called one (subst (λ (m : ℕ). load_on m find [] called ≡ Ok one) (one_more n) e) in
      let load = load_on n find ([] ++ called ∷ []) in
      let o = over_parts load called p.parts one p.is_over in
      let f : l.0 ≡ p.parts = let q = sym l.1 ∙ p.is_found in cc in
      let total : suc (sizes o.above + sizes o.across) ≡ size one = ap size o.is in
      elim l.2 [
        | inl k ↦
            let m = member_size load false called (superclass p.parts) o.above super o.one_above (subst (λ (x : Parts). is_in (superclass x) super ≡ true) f k) in
            (m.0, loads_alone find names known n (n + 1) ([] ++ called ∷ []) super m.0 enough m.1, omega (arith, total, m.2))
        | inr k ↦
            let m = member_size load true called (superinterfaces p.parts) o.across super o.all_across (subst (λ (x : Parts). is_in (superinterfaces x) super ≡ true) f k) in
            (m.0, loads_alone find names known n (n + 1) ([] ++ called ∷ []) super m.0 enough m.1, omega (arith, total, m.2))
      ]

  same_ok : (one other : Family) (r : Result Family LoadFault) → r ≡ Ok one → r ≡ Ok other → one ≡ other
  same_ok one other r a b = let q = sym a ∙ b in cc

  down : (called : List ℕ) (rest : List (List ℕ)) (super : List ℕ) (first last : Family) → Steps find called rest super → loading called ≡ Ok first → loading super ≡ Ok last → size last < size first
  down called [] super first last s a b =
      let c = child called super first a s in
      let q : size c.0 ≡ size last = ap size (same_ok c.0 last (loading super) c.1 b) in
      omega (arith, q, c.2)
  down called (next ∷ rest) super first last s a b =
      let c = child called next first a s.0 in
      let d = down next rest super c.0 last s.1 c.1 b in
      omega (arith, c.2, d)

  fewer_steps : (called : List ℕ) (names : List (List ℕ)) (super : List ℕ) → Steps find called names super → LeadsOver find names super
  fewer_steps called [] super s = tt
  fewer_steps called (next ∷ names) super s = s.1

  over_path : (path : List (List ℕ)) (super met : List ℕ) (first last : Family) → LeadsOver find path super → is_in path met ≡ true → loading met ≡ Ok first → loading super ≡ Ok last → size last < size first
  over_path [] super met first last s k a b = absurd cc
  over_path (called ∷ rest) super met first last s k a b = by (bytes_eq called met) refl k (λ t. over_path rest super met first last (fewer_steps called rest super s) t a b)
    where
      by : (c : Bool) → bytes_eq called met ≡ c → (c || is_in rest met) ≡ true → (is_in rest met ≡ true → size last < size first) → size last < size first
      by true h k rest_of =
          let same : called ≡ met = (bytes_eq-Decides called met).0 h in
          down called rest super first last s (subst (λ (x : List ℕ). loading x ≡ Ok first) (sym same) a) b
      by false h k rest_of = rest_of k

  kept_ok : (met : List ℕ) (x : Family) (r : Result Family LoadFault) → ok_of r ≡ Some x → r ≡ Ok x
  kept_ok met x (Ok y) e = cc
  kept_ok met x (Err fault) e = absurd cc

  no_false : (a b : ℕ) → a < b → b ≤ a → false ≡ true
  no_false a b l g = absurd (omega (arith, l, g))

  fine : (path : List (List ℕ)) (super : List ℕ) (last : Family) (ones : List Family) → LeadsOver find path super → loading super ≡ Ok last → AreKept name (kept_by loading) ones → AreSmall (size last) ones → AreFine [] path ones
  fine path super last [] s e k l = tt
  fine path super last (x ∷ xs) s e k l = (by (name x) k.0, fine path super last xs s e k.1 l.1)
    where
      by : (called : Option (List ℕ)) → option_and_then (kept_by loading) called ≡ Some x → Fine [] path called
      by None e = tt
      by (Some met) o = λ i. no_false (size last) (size x) (over_path path super met x last s i (kept_ok met x (loading met) o) e) l.0

  -- a class that was loaded is served on any path that leads to it
  pub served : (path : List (List ℕ)) (super : List ℕ) (one : Family) → LeadsOver find path super → loading super ≡ Ok one → load_on (n + 1) find path super ≡ Ok one
  served path super one s e =
      again find named (n + 1) (n + 1) [] path super one (omega arith) e
      (fine path super one (visited one) s e (load_kept find names known named (n + 1) enough super one e) (visited_small (size one) one (omega arith)))
