-- An index takes in an entry that is appended.
use Rattle.std.proofs.Common.{◌≡◌, ◌⊎◌, inl, inr, ℕ, ◌+◌, Bool, true, false, ◌==◌, List, [], ◌∷◌, ◌++◌, map, length, Option, Some, None, Result, Ok, Err, refl, sym, ap, subst, ◌∙◌, arith, slice_get, eqb-true, eq-eqb, true≢false, if◌then◌else◌, unwrap_or, append_assoc}
use Rattle.std.proofs.lemmas.Bool.{cases_eq}
use Rattle.std.proofs.lemmas.List.{map-append, length-map}
use Rattle.std.proofs.lemmas.Slice.Eq.{bytes_eq-Decides}
use Rattle.mvm_layout.specs.Pool.{entry}
use Rattle.mvm_layout.specs.declared.parts.Item.{Item}
use Rattle.mvm_layout.specs.declared.parts.Item.TheVariants.{Utf8}
use Rattle.mvm_listing.specs.Constants.{is_utf8_of}
use Rattle.mvm_constants.specs.declared.key.Key.{Key}
use Rattle.mvm_constants.specs.declared.key.Lack.{Lack}
use Rattle.mvm_constants.specs.declared.key.Lack.TheVariants.{Missing, OtherKind}
use Rattle.mvm_constants.specs.declared.index.Index.{Index}
use Rattle.mvm_constants.specs.NameMap.{Rows, row}
use Rattle.mvm_constants.specs.Index.{or_else, text_at, number_of, numbers_of, key_of, key_of_any, key_at, has, Keyed, is_among, waiting_for, is_settled, IsSound}
use Rattle.mvm_constants.specs.Settling.{IsIndexOf, numbered, Numbers, settles, Places, PlacesWaiting}
use Rattle.mvm_constants.proofs.Lowest.{reached, pushed}
use Rattle.mvm_constants.proofs.Growing.{Grown, grown_key, entry_stays, entry_other}

-- ---- numbers

text_pushed : (pool : List Item) (x : Item) (text : List ℕ) → text_at (pool ++ x ∷ []) text ≡ or_else (text_at pool text) (if is_utf8_of text x then Some (length pool + 1) else None)
text_pushed pool x text =
    let e : 1 + length pool ≡ length pool + 1 = omega arith in
    pushed (is_utf8_of text) 1 pool x ∙ ap (λ (n : ℕ). or_else (text_at pool text) (if is_utf8_of text x then Some n else None)) e

at_front : (front rest : List Item) (y : Item) → slice_get (front ++ y ∷ rest) (length front) ≡ Some y
at_front [] rest y = refl
at_front (z ∷ front) rest y = at_front front rest y

number_stays : (pool front rest : List Item) (x y : Item) → pool ≡ front ++ y ∷ rest → number_of (pool ++ x ∷ []) y ≡ number_of pool y
number_stays pool front rest x (Utf8 text) e =
    let there : slice_get pool (length front) ≡ Some (Utf8 text) = ap (λ (xs : List Item). slice_get xs (length front)) e ∙ at_front front rest (Utf8 text) in
    let r = reached (is_utf8_of text) 1 (length front) (Utf8 text) pool there ((bytes_eq-Decides text text).1 refl) in
    let k : text_at (pool ++ x ∷ []) text ≡ text_at pool text =
    text_pushed pool x text ∙ ap (λ (o : Option ℕ). or_else o (if is_utf8_of text x then Some (length pool + 1) else None)) r.is ∙ sym r.is in
    ap (λ (o : Option ℕ). unwrap_or o 0) k
number_stays pool front rest x _ e = refl

numbers_stay : (pool front rest : List Item) (x : Item) → pool ≡ front ++ rest → map (number_of (pool ++ x ∷ [])) rest ≡ map (number_of pool) rest
numbers_stay pool front [] x e = refl
numbers_stay pool front (y ∷ rest) x e =
    ap (λ (n : ℕ). n ∷ map (number_of (pool ++ x ∷ [])) rest) (number_stays pool front rest x y e)
    ∙ ap (λ (ns : List ℕ). number_of pool y ∷ ns) (numbers_stay pool (front ++ y ∷ []) rest x (e ∙ sym (append_assoc front (y ∷ []) rest)))

number_new : (pool : List Item) (x : Item) (texts : Rows ℕ) → ((text : List ℕ) → row text texts ≡ text_at pool text) → number_of (pool ++ x ∷ []) x ≡ numbered texts x (length pool + 1)
number_new pool (Utf8 text) texts h =
    ap (λ (o : Option ℕ). unwrap_or o 0) (text_pushed pool (Utf8 text) text ∙ ap (λ (b : Bool). or_else (text_at pool text) (if b then Some (length pool + 1) else None)) ((bytes_eq-Decides text text).1 refl))
    ∙ by (text_at pool text) ∙ ap (λ (o : Option ℕ). unwrap_or o (length pool + 1)) (sym (h text))
  where
    by : (o : Option ℕ) → unwrap_or (or_else o (Some (length pool + 1))) 0 ≡ unwrap_or o (length pool + 1)
    by None = refl
    by (Some n) = refl
number_new pool _ texts h = refl

numbers_pushed : (pool : List Item) (x : Item) (texts : Rows ℕ) → ((text : List ℕ) → row text texts ≡ text_at pool text)
    → numbers_of (pool ++ x ∷ []) ≡ numbers_of pool ++ numbered texts x (length pool + 1) ∷ []
numbers_pushed pool x texts h =
    map-append (number_of (pool ++ x ∷ [])) pool (x ∷ [])
    ∙ ap (λ (ns : List ℕ). ns ++ number_of (pool ++ x ∷ []) x ∷ []) (numbers_stay pool [] pool x refl)
    ∙ ap (λ (n : ℕ). numbers_of pool ++ n ∷ []) (number_new pool x texts h)

-- ---- what is found still has its key

has_grown : (n : ℕ) (wanted : Option Key) (old new : Result Key Lack) → Grown n old new → has wanted old ≡ true → has wanted new ≡ true
has_grown n wanted (Ok key) new g h = ap (has wanted) g ∙ h
has_grown n wanted (Err OtherKind) new g h = absurd (true≢false (sym h))
has_grown n wanted (Err (Missing m)) new g h = absurd (true≢false (sym h))

sound_grown : (pool : List Item) (x : Item) (numbers : List ℕ) (number : ℕ) (keyed : Keyed) → length pool ≡ length numbers → IsSound pool numbers keyed → IsSound (pool ++ x ∷ []) (numbers ++ number ∷ []) keyed
sound_grown pool x numbers number keyed same sound key i f = by (entry pool i) refl (sound key i f)
  where
    by : (o : Option Item) → entry pool i ≡ o → has (Some key) (key_of_any pool numbers (entry pool i)) ≡ true → has (Some key) (key_of_any (pool ++ x ∷ []) (numbers ++ number ∷ []) (entry (pool ++ x ∷ []) i)) ≡ true
    by None e h = absurd (true≢false (sym (ap (λ (o : Option Item). has (Some key) (key_of_any pool numbers o)) (sym e) ∙ h)))
    by (Some y) e h =
        ap (λ (o : Option Item). has (Some key) (key_of_any (pool ++ x ∷ []) (numbers ++ number ∷ []) o)) (entry_stays pool x y i e)
        ∙ has_grown (length numbers + 1) (Some key) (key_of pool numbers y) (key_of (pool ++ x ∷ []) (numbers ++ number ∷ []) y) (grown_key pool x numbers number y same)
        (ap (λ (o : Option Item). has (Some key) (key_of_any pool numbers o)) (sym e) ∙ h)

-- ---- each entry is settled

-- one that stood before is settled, or waits for the new one
carried : (n at : ℕ) (old new : Result Key Lack) (s placed : Index) → Grown n old new
    → ((key : Result Key Lack) → (key ≡ Err (Missing n) → ⊥) → settles s key at ≡ true → settles placed key at ≡ true)
    → (is_among at (waiting_for n s.waiting) ≡ true → settles placed new at ≡ true)
    → settles s old at ≡ true → settles placed new at ≡ true
carried n at (Ok key) new s placed g keeps among h = ap (λ (e : Result Key Lack). settles placed e at) g ∙ keeps (Ok key) (λ e. absurd (let k : Ok key ≡ Err (Missing n) = e in cc)) h
carried n at (Err OtherKind) new s placed g keeps among h = ap (λ (e : Result Key Lack). settles placed e at) g
carried n at (Err (Missing m)) new s placed g keeps among h = by (m == n) refl
  where
    by : (b : Bool) → (m == n) ≡ b → settles placed new at ≡ true
    by true k = among (ap (λ (j : ℕ). is_among at (waiting_for j s.waiting)) (sym (eqb-true m n k)) ∙ h)
    by false k =
        let apart : m ≡ n → ⊥ = λ e. true≢false (sym (eq-eqb m n e) ∙ k) in
        ap (λ (e : Result Key Lack). settles placed e at) (g apart) ∙ keeps (Err (Missing m)) (λ e. apart (let k2 : m ≡ n = cc in k2)) h

-- the index of the pool with one entry more
pub taken_in : (pool : List Item) (x : Item) (old placed new : Index) (texts : Rows ℕ) (numbers : List ℕ) → IsIndexOf pool old
    → Numbers old.texts x (length pool + 1) texts → numbers ≡ old.numbers ++ numbered old.texts x (length pool + 1) ∷ []
    → PlacesWaiting (pool ++ x ∷ []) (length pool + 1) (record old { texts = texts; numbers = numbers }) placed
    → Places (pool ++ x ∷ []) (length pool + 1) placed new
    → IsIndexOf (pool ++ x ∷ []) new
taken_in pool x old placed new texts numbers o t ns w p = record {
  texts = λ text.
      ap (row text) (p.tells.texts ∙ w.tells.texts) ∙ t text
      ∙ ap (λ (r : Option ℕ). or_else r (if is_utf8_of text x then Some (length pool + 1) else None)) (o.texts text) ∙ sym (text_pushed pool x text);
  numbers = all ∙ ns ∙ ap (λ (xs : List ℕ). xs ++ numbered old.texts x (length pool + 1) ∷ []) o.numbers ∙ sym (numbers_pushed pool x old.texts o.texts);
  sound = p.tells.sound (w.tells.sound (subst (λ (xs : List ℕ). IsSound (pool ++ x ∷ []) xs old.keyed) (sym ns) (sound_grown pool x old.numbers (numbered old.texts x (length pool + 1)) old.keyed same o.sound)));
  complete = λ at y e. by at y e (cases_eq at (length pool + 1));
}
  where
    all : new.numbers ≡ numbers
    all = p.tells.numbers ∙ w.tells.numbers

    same : length pool ≡ length old.numbers
    same = sym (length-map pool (number_of pool)) ∙ ap (λ (xs : List ℕ). length xs) (sym o.numbers)

    is_key_at : (at : ℕ) (y : Item) → entry (pool ++ x ∷ []) at ≡ Some y → key_at (pool ++ x ∷ []) numbers at ≡ key_of (pool ++ x ∷ []) numbers y
    is_key_at at y e = ap (key_of_any (pool ++ x ∷ []) numbers) e

    n_is : length old.numbers + 1 ≡ length pool + 1
    n_is = ap (λ (m : ℕ). m + 1) (sym same)

    grown : (y : Item) → Grown (length pool + 1) (key_of pool old.numbers y) (key_of (pool ++ x ∷ []) numbers y)
    grown y =
        subst (λ (xs : List ℕ). Grown (length pool + 1) (key_of pool old.numbers y) (key_of (pool ++ x ∷ []) xs y)) (sym ns)
        (subst (λ (m : ℕ). Grown m (key_of pool old.numbers y) (key_of (pool ++ x ∷ []) (old.numbers ++ numbered old.texts x (length pool + 1) ∷ []) y)) n_is
        (grown_key pool x old.numbers (numbered old.texts x (length pool + 1)) y same))

    settled : (at : ℕ) (y : Item) → entry (pool ++ x ∷ []) at ≡ Some y → ((at ≡ length pool + 1) ⊎ (at ≡ length pool + 1 → ⊥)) → settles new (key_of (pool ++ x ∷ []) numbers y) at ≡ true
    settled at y e (inl k) =
        subst (λ (key : Result Key Lack). settles new key at ≡ true) (ap (λ (xs : List ℕ). key_at (pool ++ x ∷ []) xs at) w.tells.numbers ∙ is_key_at at y e)
        (subst (λ (j : ℕ). settles new (key_at (pool ++ x ∷ []) placed.numbers j) j ≡ true) (sym k) p.here)
    settled at y e (inr k) =
        p.keeps (key_of (pool ++ x ∷ []) numbers y) at
        (carried (length pool + 1) at (key_of pool old.numbers y) (key_of (pool ++ x ∷ []) numbers y) (record old { texts = texts; numbers = numbers }) placed (grown y)
        (λ key n s. w.keeps key at n s)
        (λ a. subst (λ (key : Result Key Lack). settles placed key at ≡ true) (is_key_at at y e) (w.each at a))
        (o.complete at y (sym (entry_other pool x at k) ∙ e)))

    by : (at : ℕ) (y : Item) → entry (pool ++ x ∷ []) at ≡ Some y → ((at ≡ length pool + 1) ⊎ (at ≡ length pool + 1 → ⊥)) → is_settled new.keyed new.waiting (key_of (pool ++ x ∷ []) new.numbers y) at ≡ true
    by at y e c = ap (λ (xs : List ℕ). settles new (key_of (pool ++ x ∷ []) xs y) at) all ∙ settled at y e c

-- the same of what a call does
pub taken_in_at : (pool : List Item) (x : Item) (all : List Item) (len : ℕ) (old placed new : Index) (texts : Rows ℕ) (numbers : List ℕ) (number : ℕ) → all ≡ pool ++ x ∷ [] → len ≡ length pool
    → IsIndexOf pool old → Numbers old.texts x (len + 1) texts → number ≡ numbered old.texts x (len + 1) → numbers ≡ old.numbers ++ number ∷ []
    → PlacesWaiting all (len + 1) (record old { texts = texts; numbers = numbers }) placed → Places all (len + 1) placed new → IsIndexOf all new
taken_in_at pool x all len old placed new texts numbers number e l o t n ns w p =
    subst (λ (xs : List Item). IsIndexOf xs new) (sym e) (taken_in pool x old placed new texts numbers o
    (subst (λ (m : ℕ). Numbers old.texts x (m + 1) texts) l t)
    (ns ∙ ap (λ (j : ℕ). old.numbers ++ j ∷ []) (n ∙ ap (λ (m : ℕ). numbered old.texts x (m + 1)) l))
    (subst (λ (m : ℕ). PlacesWaiting (pool ++ x ∷ []) (m + 1) (record old { texts = texts; numbers = numbers }) placed) l
    (subst (λ (xs : List Item). PlacesWaiting xs (len + 1) (record old { texts = texts; numbers = numbers }) placed) e w))
    (subst (λ (m : ℕ). Places (pool ++ x ∷ []) (m + 1) placed new) l (subst (λ (xs : List Item). Places xs (len + 1) placed new) e p)))
