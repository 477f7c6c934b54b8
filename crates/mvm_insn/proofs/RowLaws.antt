-- The rows of a switch, made from a function of the place: their number, one of them, and the one with a key.
use Rattle.std.proofs.Common.{◌≡◌, ℕ, zero, suc, ◌+◌, ◌-◌, ◌<◌, ◌≤◌, inl, inr, Bool, true, false, Decides, List, length, Option, Some, None, refl, sym, ap, ◌∙◌, arith, add-one, add-zero, add-suc, if◌then◌else◌}
use Rattle.std.specs.Prelude.{ℤ, pos, ◌+ℤ◌, ◌<ℤ◌, ◌≤ℤ◌, int_lt, map, slice_get}
use Rattle.std.specs.List.{range_with_len}
use Rattle.std.specs.Ordering.{int_eq}
use Rattle.std.proofs.lemmas.Bool.{and_parts, and_from, and_left, and_right, cases_lt}
use Rattle.std.proofs.lemmas.Bool.Decides.{Decides-int_eq}
use Rattle.std.proofs.lemmas.List.FromFn.{length-map-range_with_len}
use Rattle.std.proofs.lemmas.Int.{ints}
use Rattle.mvm_insn.specs.Rows.{rows, rising, target_in}
use Rattle.mvm_insn.specs.declared.switch_rows.SwitchRow.{SwitchRow}

pub length_rows : (n : ℕ) (f : ℕ → SwitchRow) → length (rows n f) ≡ n
unfolding rows
length_rows n f = length-map-range_with_len f 0 n

get-from : (f : ℕ → SwitchRow) (a n i j : ℕ) → i < n → a + i ≡ j → slice_get (map f (range_with_len a n)) i ≡ Some (f j)
get-from f a zero i j h e = absurd (omega arith)
get-from f a (suc n) zero j h e = ap (λ k. Some (f k)) (omega arith)
get-from f a (suc n) (suc i) j h e = get-from f (a + 1) n i j (omega arith) (omega arith)

pub get_rows : (n i : ℕ) (f : ℕ → SwitchRow) → i < n → slice_get (rows n f) i ≡ Some (f i)
unfolding rows
get_rows n i f h = get-from f 0 n i i h (omega arith)

is_false : {P : Type 0} (b : Bool) → Decides b P → (P → ⊥) → b ≡ false
is_false true d n = absurd (n (d.0 refl))
is_false false d n = refl

passes : (b : Bool) (x y : Option ℤ) → b ≡ false → (if b then x else y) ≡ y
passes b x y e = rw e refl

takes : (b : Bool) (x y : Option ℤ) → b ≡ true → (if b then x else y) ≡ x
takes b x y e = rw e refl

misses : (f : ℕ → SwitchRow) (key : ℤ) (a n : ℕ) → ((j : ℕ) → a ≤ j → j < a + n → (f j).key ≡ key → ⊥) → target_in (map f (range_with_len a n)) key ≡ None
misses f key a zero h = refl
misses f key a (suc n) h =
    passes (int_eq (f a).key key) _ _ (is_false _ (Decides-int_eq (f a).key key) (h a (omega arith) (omega arith)))
    ∙ misses f key (a + 1) n (λ j p q. h j (omega arith) (omega arith))

hits : (f : ℕ → SwitchRow) (key : ℤ) (a n k m : ℕ) → a + k ≡ m → k < n → (f m).key ≡ key → ((j : ℕ) → a ≤ j → j < m → (f j).key ≡ key → ⊥) → target_in (map f (range_with_len a n)) key ≡ Some (f m).target
hits f key a zero k m e h is below = absurd (omega arith)
hits f key a (suc n) zero m e h is below =
    let here : m ≡ a = omega arith in
    takes (int_eq (f a).key key) _ _ ((Decides-int_eq (f a).key key).1 (ap (λ i. (f i).key) (sym here) ∙ is)) ∙ ap (λ i. Some (f i).target) (sym here)
hits f key a (suc n) (suc k) m e h is below =
    passes (int_eq (f a).key key) _ _ (is_false _ (Decides-int_eq (f a).key key) (below a (omega arith) (omega arith)))
    ∙ hits f key (a + 1) n k m (omega arith) (omega arith) is (λ j p q. below j (omega arith) q)

-- no row has the key
pub target-misses : (f : ℕ → SwitchRow) (key : ℤ) (n : ℕ) → ((j : ℕ) → j < n → (f j).key ≡ key → ⊥) → target_in (rows n f) key ≡ None
unfolding rows
target-misses f key n h = misses f key 0 n (λ j p q. h j (omega arith))

-- the first row that has the key
pub target-hits : (f : ℕ → SwitchRow) (key : ℤ) (n m : ℕ) → m < n → (f m).key ≡ key → ((j : ℕ) → j < m → (f j).key ≡ key → ⊥) → target_in (rows n f) key ≡ Some (f m).target
unfolding rows
target-hits f key n m h is below = hits f key 0 n m m (omega arith) h is (λ j p q. below j q)

-- ---- keys that rise

below-next : (x y z : ℤ) → x <ℤ y → int_lt y z ≡ true → x <ℤ z
below-next x y z h e = grind (arith, ints)

below-one : (x y : ℤ) → int_lt x y ≡ true → x <ℤ y
below-one x y e = grind (arith, ints)

-- so a key is below each later one
pub rising-below : (key : ℕ → ℤ) (n i j : ℕ) → rising n key ≡ true → i < j → j ≤ n → key i <ℤ key j
rising-below key zero i j r h k = absurd (omega arith)
rising-below key (suc n) i j r h k =
    let parts = and_parts (rising n key) (int_lt (key n) (key (n + 1))) r in
    elim (cases_lt j (suc n)) [
      | inl p ↦ rising-below key n i j parts.0 h (omega arith)
      | inr q ↦ (let last : j ≡ n + 1 = omega arith in rw last (elim (cases_lt i n) [
        | inl p ↦ below-next (key i) (key n) (key (n + 1)) (rising-below key n i n parts.0 p (omega arith)) parts.1
        | inr s ↦ (let first : i ≡ n = omega arith in rw first (below-one (key n) (key (n + 1)) parts.1))
      ]))
    ]

-- one more place
up : (x y : ℤ) → x <ℤ y → int_lt x y ≡ true
up x y h = grind (arith, ints)

pub rising-more : (key : ℕ → ℤ) (n : ℕ) → rising n key ≡ true → key n <ℤ key (n + 1) → rising (n + 1) key ≡ true
rising-more key n r h = rw add-one (and_from (rising n key) (int_lt (key n) (key (n + 1))) r (up _ _ h))

-- keys that do not rise up to a place do not rise beyond
not_up : (x y : ℤ) → y ≤ℤ x → int_lt x y ≡ false
not_up x y h = grind (arith, ints)

stays : (key : ℕ → ℤ) (n k : ℕ) → rising n key ≡ false → rising (n + k) key ≡ false
stays key n zero e = rw add-zero e
stays key n (suc k) e = rw add-suc (and_left (rising (n + k) key) _ (stays key n k e))

pub rising-stops : (key : ℕ → ℤ) (n m : ℕ) → n < m → key (n + 1) ≤ℤ key n → rising m key ≡ false
rising-stops key n m h k =
    let here : rising (n + 1) key ≡ false = rw add-one (and_right (rising n key) (int_lt (key n) (key (n + 1))) (not_up _ _ k)) in
    let there : (n + 1) + (m - (n + 1)) ≡ m = omega arith in
    rw there at (stays key (n + 1) (m - (n + 1)) here)

-- the keys in front of low are below a key, those from high on above it
pub record Between (key : ℕ → ℤ) (count : ℕ) (sought : ℤ) (low high : ℕ) : Type 0 where
  pub ordered : low ≤ high
  pub within : high ≤ count
  pub under : (j : ℕ) → j < low → key j <ℤ sought
  pub over : (j : ℕ) → high ≤ j → j < count → sought <ℤ key j

pub between-begins : (key : ℕ → ℤ) (count : ℕ) (sought : ℤ) → Between key count sought 0 count
between-begins key count sought = record {
  ordered = omega arith;
  within = omega arith;
  under = λ j p. absurd (omega arith);
  over = λ j p q. absurd (omega arith);
}

through : (x y z : ℤ) → x <ℤ y → y <ℤ z → x <ℤ z
through x y z p q = omega (arith, ints)

apart : (x y : ℤ) → x <ℤ y → x ≡ y → ⊥
apart x y h e = omega (arith, ints)

under-here : (key : ℕ → ℤ) (count m j : ℕ) (sought : ℤ) → rising (count - 1) key ≡ true → m < count → key m <ℤ sought → j < m + 1 → key j <ℤ sought
under-here key count m j sought r h here p = elim (cases_lt j m) [
  | inl q ↦ through _ _ _ (rising-below key (count - 1) j m r q (omega arith)) here
  | inr q ↦ (let e : j ≡ m = omega arith in rw e here)
]

over-here : (key : ℕ → ℤ) (count m j : ℕ) (sought : ℤ) → rising (count - 1) key ≡ true → sought <ℤ key m → m ≤ j → j < count → sought <ℤ key j
over-here key count m j sought r here p q = elim (cases_lt m j) [
  | inl s ↦ through _ _ _ here (rising-below key (count - 1) m j r s (omega arith))
  | inr s ↦ (let e : j ≡ m = omega arith in rw e here)
]

pub between-up : (key : ℕ → ℤ) (count : ℕ) (sought : ℤ) (low high m : ℕ) → rising (count - 1) key ≡ true → Between key count sought low high → m < high → key m <ℤ sought → Between key count sought (m + 1) high
between-up key count sought low high m r b h here = record {
  ordered = omega arith;
  within = b.within;
  under = λ j p. under-here key count m j sought r (omega (arith, b.within)) here p;
  over = b.over;
}

pub between-down : (key : ℕ → ℤ) (count : ℕ) (sought : ℤ) (low high m : ℕ) → rising (count - 1) key ≡ true → Between key count sought low high → low ≤ m → m < high → sought <ℤ key m → Between key count sought low m
between-down key count sought low high m r b h k here = record {
  ordered = h;
  within = omega (arith, b.within);
  under = b.under;
  over = λ j p q. over-here key count m j sought r here p q;
}

pub between-ends : (key : ℕ → ℤ) (count : ℕ) (sought : ℤ) (low high : ℕ) → Between key count sought low high → high ≤ low → (j : ℕ) → j < count → key j ≡ sought → ⊥
between-ends key count sought low high b h j p e = elim (cases_lt j low) [
  | inl q ↦ apart _ _ (b.under j q) e
  | inr q ↦ apart _ _ (b.over j (omega arith) p) (sym e)
]

-- the target of the one row that has a key, as the rows' list has it and as it is read
pub target_found : (f : ℕ → SwitchRow) (key : ℤ) (n m : ℕ) (all : List SwitchRow) (r : SwitchRow) → all ≡ rows n f → m < n → (f m).key ≡ key → ((j : ℕ) → j < m → (f j).key ≡ key → ⊥) → slice_get all m ≡ Some r → Some r.target ≡ target_in all key
target_found f key n m all r e h is below g =
    let row : r ≡ f m = cc (get_rows n m f h) in
    ap (λ (x : SwitchRow). Some x.target) row ∙ sym (ap (λ (xs : List SwitchRow). target_in xs key) e ∙ target-hits f key n m h is below)

pub target_missed : (f : ℕ → SwitchRow) (key : ℤ) (n : ℕ) (all : List SwitchRow) → all ≡ rows n f → ((j : ℕ) → j < n → (f j).key ≡ key → ⊥) → None ≡ target_in all key
target_missed f key n all e h = sym (ap (λ (xs : List SwitchRow). target_in xs key) e ∙ target-misses f key n h)

-- where the keys rise, none in front of a place is the one there
pub rising_apart : (key : ℕ → ℤ) (count m : ℕ) (sought : ℤ) → rising (count - 1) key ≡ true → m < count → key m ≡ sought → (j : ℕ) → j < m → key j ≡ sought → ⊥
rising_apart key count m sought r h is j p e = apart (key j) (key m) (rising-below key (count - 1) j m r p (omega arith)) (e ∙ sym is)

-- keys that are counted from the lowest
pub counted_apart : (low sought : ℤ) (m : ℕ) → (low +ℤ pos m) ≡ sought → (j : ℕ) → j < m → (low +ℤ pos j) ≡ sought → ⊥
counted_apart low sought m is j p e = omega (arith, ints)
