-- Each step of a load: what it reads is not left to be read.
use Rattle.std.proofs.Common.{◌≡◌, ◌≤◌, ℕ, ◌+◌, Bool, true, false, cond, List, [], ◌∷◌, ◌++◌, Option, Some, None, Result, Ok, Err, refl, sym, ap, subst, ◌∙◌, arith}
use Rattle.std.specs.Prelude.{is_some, ◌||◌}
use Rattle.std.specs.Str.{bytes_eq}
use Rattle.std.proofs.lemmas.Slice.Eq.{bytes_eq-Decides}
use Rattle.mvm_layout.specs.declared.parts.Parts.{Parts}
use Rattle.mvm_set.specs.declared.class.Lineage.{Lineage}
use Rattle.mvm_table.specs.Files.{File, files_in}
use Rattle.mvm_table.specs.Load.{is_in, found}
use Rattle.mvm_table.specs.NameMap.{Rows, row, Puts}
use Rattle.mvm_table.specs.Work.{weight_if, unpassed}
use Rattle.mvm_table.specs.Begun.{super_at, names_of, is_begun, is_met, began, begun_of, IsLoading, Closes}
use Rattle.mvm_table.specs.Contents.{Contents, is_shelved}
use Rattle.mvm_table.specs.Cost.{cost, costs, to_read, AreApart, HasSupers, AreAmong, left, Reads}
use Rattle.mvm_table.specs.declared.begun.Begun.{Begun}
use Rattle.mvm_table.specs.declared.fault.LoadFault.{LoadFault}
use Rattle.mvm_table.proofs.Weights.{is_in-new}
use Rattle.mvm_table.proofs.Supers.{is_super}
use Rattle.mvm_table.proofs.Standing.{last_stands, names_last}

-- ---- one name more passes, among names of which each stands once

weights_same : (weight : List ℕ → ℕ) (old new : List ℕ → Bool) (name : List ℕ) → ((other : List ℕ) → bytes_eq other name ≡ false → new other ≡ old other)
    → (names : List (List ℕ)) → is_in names name ≡ false → unpassed weight new names ≡ unpassed weight old names
weights_same weight old new name h [] k = refl
weights_same weight old new name h (other ∷ names) k = by (bytes_eq other name) refl k (weights_same weight old new name h names)
  where
    by : (b : Bool) → bytes_eq other name ≡ b → (b || is_in names name) ≡ false → (is_in names name ≡ false → unpassed weight new names ≡ unpassed weight old names) → unpassed weight new (other ∷ names) ≡ unpassed weight old (other ∷ names)
    by true e k rest = absurd cc
    by false e k rest =
        ap (λ (b : Bool). weight_if b (weight other) + unpassed weight new names) (h other e)
        ∙ ap (λ (n : ℕ). weight_if (old other) (weight other) + n) (rest k)

pub one_passes : (weight : List ℕ → ℕ) (old new : List ℕ → Bool) (name : List ℕ) → ((other : List ℕ) → bytes_eq other name ≡ false → new other ≡ old other) → old name ≡ false → new name ≡ true
    → (names : List (List ℕ)) → AreApart names → is_in names name ≡ true → unpassed weight new names + weight name ≡ unpassed weight old names
one_passes weight old new name h o n [] a k = absurd cc
one_passes weight old new name h o n (other ∷ names) a k = by (bytes_eq other name) refl k (one_passes weight old new name h o n names a.1)
  where
    by : (b : Bool) → bytes_eq other name ≡ b → (b || is_in names name) ≡ true → (is_in names name ≡ true → unpassed weight new names + weight name ≡ unpassed weight old names) → unpassed weight new (other ∷ names) + weight name ≡ unpassed weight old (other ∷ names)
    by true e k rest_of =
        let same : other ≡ name = (bytes_eq-Decides other name).0 e in
        let x : weight_if (new other) (weight other) ≡ 0 = rw (same, n) refl in
        let y : weight_if (old other) (weight other) ≡ weight name = rw (same, o) refl in
        let rest = weights_same weight old new name h names (ap (is_in names) (sym same) ∙ a.0) in
        omega (arith, x, y, rest)
    by false e k rest_of =
        let x : weight_if (new other) (weight other) ≡ weight_if (old other) (weight other) = ap (λ (b : Bool). weight_if b (weight other)) (h other e) in
        let rest = rest_of k in
        omega (arith, x, rest)

-- what does not pass weighs no more than all
pub one_weighs : (weight : List ℕ → ℕ) (test : List ℕ → Bool) (name : List ℕ) → test name ≡ false → (names : List (List ℕ)) → is_in names name ≡ true → weight name ≤ unpassed weight test names
one_weighs weight test name o [] k = absurd cc
one_weighs weight test name o (other ∷ names) k = by (bytes_eq other name) refl k (one_weighs weight test name o names)
  where
    by : (b : Bool) → bytes_eq other name ≡ b → (b || is_in names name) ≡ true → (is_in names name ≡ true → weight name ≤ unpassed weight test names) → weight name ≤ weight_if (test other) (weight other) + unpassed weight test names
    by true e k rest_of =
        let same : other ≡ name = (bytes_eq-Decides other name).0 e in
        let y : weight_if (test other) (weight other) ≡ weight name = rw (same, o) refl in
        omega (arith, y)
    by false e k rest_of = let rest = rest_of k in omega (arith, rest)

-- ---- a name that is met

module _ (met : Rows (Option Lineage)) (name : List ℕ) (value : Option Lineage) (new : Rows (Option Lineage)) (p : Puts met name value new) where
  at_name : (other : List ℕ) (b : Bool) → bytes_eq other name ≡ b → row other new ≡ cond b (Some value) (row other met)
  at_name other b e = p other ∙ ap (λ (c : Bool). cond c (Some value) (row other met)) e

  pub met_else : (other : List ℕ) → bytes_eq other name ≡ false → is_met new other ≡ is_met met other
  met_else other e = ap is_some (at_name other false e)

  pub met_now : is_met new name ≡ true
  met_now = ap is_some (at_name name true ((bytes_eq-Decides name name).1 refl))

  pub among_more : (names : List (List ℕ)) → is_in names name ≡ true → AreAmong met names → AreAmong new names
  among_more names i a other m = by (bytes_eq other name) refl
    where
      by : (b : Bool) → bytes_eq other name ≡ b → is_in names other ≡ true
      by true e = let same : other ≡ name = (bytes_eq-Decides other name).0 e in ap (is_in names) same ∙ i
      by false e = a other (sym (met_else other e) ∙ m)

  -- a name that was met is met still
  pub met_same : (weight : List ℕ → ℕ) (names : List (List ℕ)) → is_met met name ≡ true → left weight new names ≡ left weight met names
  met_same weight names m = by names
    where
      each : (other : List ℕ) (b : Bool) → bytes_eq other name ≡ b → is_met new other ≡ is_met met other
      each other true e = let same : other ≡ name = (bytes_eq-Decides other name).0 e in ap (is_met new) same ∙ met_now ∙ sym (ap (is_met met) same ∙ m)
      each other false e = met_else other e

      by : (ns : List (List ℕ)) → unpassed weight (is_met new) ns ≡ unpassed weight (is_met met) ns
      by [] = refl
      by (n ∷ ns) = ap (λ (b : Bool). weight_if b (weight n) + unpassed weight (is_met new) ns) (each n (bytes_eq n name) refl) ∙ ap (λ (k : ℕ). weight_if (is_met met n) (weight n) + k) (by ns)

  pub left_less : (files : List File) (weight : List ℕ → ℕ) (names : List (List ℕ)) → HasSupers files names → is_in names name ≡ true → is_met met name ≡ false → left weight new names + weight name ≡ left weight met names
  left_less files weight names w i o = one_passes weight (is_met met) (is_met new) name met_else o met_now names w.apart i

-- ---- the steps

met_begun : (o : Option (Option Lineage)) → is_begun o ≡ true → is_some o ≡ true
met_begun (Some o) e = refl
met_begun None e = absurd cc

module _ (set : ℕ) (files : List File) (root : List ℕ) (xs : List Begun) (top : Begun) (met : Rows (Option Lineage)) (l : IsLoading set files root (xs ++ top ∷ []) met)
    (weight : List ℕ → ℕ) (names : List (List ℕ)) (w : HasSupers files names) (a : AreAmong met names) where
  top_met : is_met met top.name ≡ true
  top_met =
      met_begun (row top.name met)
      (sym (l.path.each top.name) ∙ ap (λ (ns : List (List ℕ)). is_in ns top.name) (names_last set files xs top) ∙ is_in-new (names_of xs) top.name)

  super_among : (super : List ℕ) → super_at top.file top.next ≡ Some (Some super) → is_in names super ≡ true
  super_among super s =
      let t = last_stands set files [] xs top l.stand in
      w.supers top.name super top.file (a top.name top_met) t.is_found (is_super top.file top.next super s)

  pub closes_reads : (found : Option Lineage) (class : Lineage) (new : Rows (Option Lineage)) (before after : ℕ) → after ≡ before → Closes xs top.name class met new found → Reads weight names (Ok found) met before new after
  closes_reads (Some answer) class new before after e c =
      let r : AreAmong met names × (after + left weight met names ≡ before + left weight met names) = (a, omega (arith, e)) in
      subst (λ (m : Rows (Option Lineage)). AreAmong m names × (after + left weight m names ≡ before + left weight met names)) (sym c.2) r
  closes_reads None class new before after e c = (
    among_more met top.name (Some class) new c names (a top.name top_met) a,
    (let s = met_same met top.name (Some class) new c weight names top_met in omega (arith, s, e)),
  )

  module _ (super : List ℕ) (s : Some (Some super) ≡ super_at top.file top.next) (n : row super met ≡ None) where
    -- a super that could not be begun
    pub super_reads : (before after : ℕ) → after ≤ before + weight super → after ≤ before + left weight met names
    super_reads before after h =
        let o = one_weighs weight (is_met met) super (ap is_some n) names (super_among super (sym s)) in
        omega (arith, o, h)

    of_name : (r : Result Parts LoadFault) (new : Begun) → began super r ≡ Ok new → super ≡ new.name
    of_name (Ok file) new e = let q : begun_of super file ≡ new = cc in ap (λ (b : Begun). b.name) q
    of_name (Err fault) new e = absurd cc

    pub opens_reads : (new : Begun) (rows : Rows (Option Lineage)) (before after : ℕ) → began super (found files super) ≡ Ok new → Puts met new.name None rows → after ≡ before + weight super
        → AreAmong rows names × (after + left weight rows names ≡ before + left weight met names)
    opens_reads new rows before after b p h =
        let q : Puts met super None rows = subst (λ (m : List ℕ). Puts met m None rows) (sym (of_name (found files super) new b)) p in
        let i = super_among super (sym s) in (
          among_more met super None rows q names i a,
          (let k = left_less met super None rows q files weight names w i (ap is_some n) in omega (arith, k, h)),
        )

-- ---- the whole load

pub left_all : (weight : List ℕ → ℕ) (names : List (List ℕ)) → left weight [] names ≡ costs weight names
left_all weight [] = refl
left_all weight (name ∷ names) = ap (λ (n : ℕ). weight name + n) (left_all weight names)

-- for a class that does not stand on the shelf its file is read
off_shelf : (table : Contents) (set : ℕ) (name : List ℕ) → is_shelved table set name ≡ false → to_read table set name ≡ cost (files_in set table.files) name
off_shelf table set name e = ap (λ (b : Bool). cond b 0 (cost (files_in set table.files) name)) e

module _ (table : Contents) (set : ℕ) (name : List ℕ) (e : is_shelved table set name ≡ false) (before after : ℕ) where
  pub all_read : after ≡ before + cost (files_in set table.files) name → after ≡ before + to_read table set name
  all_read h = let o = off_shelf table set name e in omega (arith, o, h)

  pub most_read : after ≤ before + cost (files_in set table.files) name → after ≤ before + to_read table set name
  most_read h = let o = off_shelf table set name e in omega (arith, o, h)

module _ (files : List File) (weight : List ℕ → ℕ) (name : List ℕ) (names : List (List ℕ)) (w : HasSupers files names) (i : is_in names name ≡ true) where
  none_met : AreAmong [] names
  none_met other m = absurd cc

  pub first_among : (met : Rows (Option Lineage)) → Puts [] name None met → AreAmong met names
  first_among met p = among_more [] name None met p names i none_met

  -- a class of which no file is read costs no more than those names
  pub first_weighs : (before after : ℕ) → after ≤ before + weight name → after ≤ before + costs weight names
  first_weighs before after h =
      let o = one_weighs weight (is_met []) name refl names i in
      let z = left_all weight names in
      omega (arith, o, z, h)

  pub first_reads : (met : Rows (Option Lineage)) (before between after : ℕ) → Puts [] name None met → between ≡ before + weight name → after ≤ between + left weight met names → after ≤ before + costs weight names
  first_reads met before between after p h k =
      let s = left_less [] name None met p files weight names w i refl in
      let z = left_all weight names in
      omega (arith, s, z, h, k)
