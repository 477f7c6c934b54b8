-- The lowest index of an entry that passes a test.
use Rattle.std.proofs.Common.{◌≡◌, ℕ, ◌+◌, ◌≤◌, suc, zero, Bool, true, false, List, [], ◌∷◌, ◌++◌, length, Option, Some, None, refl, sym, ap, ◌∙◌, arith, slice_get, if◌then◌else◌, leb-true, nat_le}
use Rattle.mvm_layout.specs.declared.parts.Item.{Item}
use Rattle.mvm_listing.specs.Constants.{index_where}
use Rattle.mvm_constants.specs.Index.{is_by, or_else}

-- an entry that passes stands at an index, which is counted from n
pub record Stands (test : Item → Bool) (n i : ℕ) (xs : List Item) : Type 0 where
  pub place : ℕ
  pub item : Item
  pub counted : i ≡ n + place
  pub there : slice_get xs place ≡ Some item
  pub passes : test item ≡ true

pub stands : (test : Item → Bool) (n i : ℕ) (xs : List Item) → index_where test n xs ≡ Some i → Stands test n i xs
stands test n i [] e = absurd (let k : None ≡ Some i = e in cc)
stands test n i (x ∷ xs) e = by (test x) refl e (stands test (n + 1) i xs)
  where
    by : (b : Bool) → test x ≡ b → (if b then Some n else index_where test (n + 1) xs) ≡ Some i → (index_where test (n + 1) xs ≡ Some i → Stands test (n + 1) i xs) → Stands test n i (x ∷ xs)
    by true h e later = let k : n ≡ i = cc in record { place = 0; item = x; counted = omega arith; there = refl; passes = h }
    by false h e later = let s = later e in record { place = suc s.place; item = s.item; counted = omega (arith, s.counted); there = s.there; passes = s.passes }

-- one that passes is not below the lowest
pub record Reached (test : Item → Bool) (n place : ℕ) (xs : List Item) : Type 0 where
  pub index : ℕ
  pub is : index_where test n xs ≡ Some index
  pub low : index ≤ n + place
  pub high : n ≤ index

pub reached : (test : Item → Bool) (n place : ℕ) (item : Item) (xs : List Item) → slice_get xs place ≡ Some item → test item ≡ true → Reached test n place xs
reached test n place item [] e p = absurd (let k : None ≡ Some item = e in cc)
reached test n zero item (x ∷ xs) e p =
    let k : x ≡ item = cc in
    let h : test x ≡ true = ap test k ∙ p in
    record { index = n; is = rw h refl; low = omega arith; high = omega arith }
reached test n (suc place) item (x ∷ xs) e p = by (test x) refl (reached test (n + 1) place item xs e p)
  where
    by : (b : Bool) → test x ≡ b → Reached test (n + 1) place xs → Reached test n (suc place) (x ∷ xs)
    by true h r = record { index = n; is = rw h refl; low = omega arith; high = omega arith }
    by false h r = record { index = r.index; is = rw h r.is; low = omega (arith, r.low); high = omega (arith, r.high) }

-- one entry more
pub pushed : (test : Item → Bool) (n : ℕ) (xs : List Item) (x : Item) → index_where test n (xs ++ x ∷ []) ≡ or_else (index_where test n xs) (if test x then Some (n + length xs) else None)
pushed test n [] x = let e : n ≡ n + 0 = omega arith in ap (λ (m : ℕ). if test x then Some m else None) e
pushed test n (y ∷ xs) x = by (test y) (pushed test (n + 1) xs x)
  where
    by : (b : Bool) → index_where test (n + 1) (xs ++ x ∷ []) ≡ or_else (index_where test (n + 1) xs) (if test x then Some ((n + 1) + length xs) else None)
        → (if b then Some n else index_where test (n + 1) (xs ++ x ∷ [])) ≡ or_else (if b then Some n else index_where test (n + 1) xs) (if test x then Some (n + suc (length xs)) else None)
    by true later = refl
    by false later =
        let e : (n + 1) + length xs ≡ n + suc (length xs) = omega arith in
        later ∙ ap (λ (m : ℕ). or_else (index_where test (n + 1) xs) (if test x then Some m else None)) e

pub same_test : (test other : Item → Bool) (n : ℕ) (xs : List Item) → ((item : Item) → test item ≡ other item) → index_where test n xs ≡ index_where other n xs
same_test test other n [] h = refl
same_test test other n (x ∷ xs) h =
    ap (λ (b : Bool). if b then Some n else index_where test (n + 1) xs) (h x)
    ∙ ap (λ (r : Option ℕ). if other x then Some n else r) (same_test test other (n + 1) xs h)

-- what stands where it says, and is below each that passes, is the lowest
pub lowest_is : (test : Item → Bool) (found : Option ℕ) (xs : List Item)
    → ((i : ℕ) → found ≡ Some i → Stands test 1 i xs)
    → ((place : ℕ) (item : Item) → slice_get xs place ≡ Some item → test item ≡ true → is_by found (suc place) ≡ true)
    → found ≡ index_where test 1 xs
lowest_is test None xs sound complete = by (index_where test 1 xs) refl
  where
    by : (r : Option ℕ) → index_where test 1 xs ≡ r → None ≡ r
    by None h = refl
    by (Some i) h = let s = stands test 1 i xs h in absurd (let k : false ≡ true = complete s.place s.item s.there s.passes in cc)
lowest_is test (Some i) xs sound complete =
    let s = sound i refl in
    let r = reached test 1 s.place s.item xs s.there s.passes in
    let t = stands test 1 r.index xs r.is in
    let k : nat_le i (suc t.place) ≡ true = complete t.place t.item t.there t.passes in
    let e : i ≡ r.index = omega (arith, leb-true i (suc t.place) k, s.counted, r.low, t.counted) in
    ap (λ (m : ℕ). Some m) e ∙ sym r.is
