-- One entry more: what has a key keeps it, and what waits for another index still waits.
use Rattle.std.proofs.Common.{◌≡◌, ℕ, ◌+◌, suc, zero, List, [], ◌∷◌, ◌++◌, length, Option, Some, None, Result, Ok, Err, refl, sym, ap, ◌∙◌, arith, slice_get}
use Rattle.mvm_base.specs.Answers.{◌>>=◌}
use Rattle.mvm_layout.specs.Pool.{entry}
use Rattle.mvm_layout.specs.declared.parts.Item.{Item}
use Rattle.mvm_layout.specs.declared.parts.Item.TheVariants.{Class, Str, Fieldref, Methodref, InterfaceMethodref, NameAndType}
use Rattle.mvm_constants.specs.declared.key.Lack.{Lack}
use Rattle.mvm_constants.specs.declared.key.Lack.TheVariants.{Missing, OtherKind}
use Rattle.mvm_constants.specs.Index.{at_index, number_in, text_number, class_in, class_number, both_numbers, pair_in, pair_numbers, member_numbers, key_of}

pub get_other : {A : Type 0} (xs : List A) (x : A) (n : ℕ) → (n ≡ length xs → ⊥) → slice_get (xs ++ x ∷ []) n ≡ slice_get xs n
get_other [] x zero h = absurd (h refl)
get_other [] x (suc n) h = refl
get_other (y ∷ xs) x zero h = refl
get_other (y ∷ xs) x (suc n) h = get_other xs x n (λ e. h (ap (λ (m : ℕ). suc m) e))

pub get_last : {A : Type 0} (xs : List A) (x : A) → slice_get (xs ++ x ∷ []) (length xs) ≡ Some x
get_last [] x = refl
get_last (y ∷ xs) x = get_last xs x

pub index_other : {A : Type 0} (xs : List A) (x : A) (i : ℕ) → (i ≡ length xs + 1 → ⊥) → at_index (xs ++ x ∷ []) i ≡ at_index xs i
index_other xs x zero h = refl
index_other xs x (suc n) h = get_other xs x n (λ e. h (let k : suc n ≡ length xs + 1 = omega (arith, e) in k))

pub get_stays : {A : Type 0} (xs : List A) (x y : A) (n : ℕ) → slice_get xs n ≡ Some y → slice_get (xs ++ x ∷ []) n ≡ Some y
get_stays [] x y n e = absurd (let k : None ≡ Some y = e in cc)
get_stays (z ∷ xs) x y zero e = e
get_stays (z ∷ xs) x y (suc n) e = get_stays xs x y n e

pub index_stays : {A : Type 0} (xs : List A) (x y : A) (i : ℕ) → at_index xs i ≡ Some y → at_index (xs ++ x ∷ []) i ≡ Some y
index_stays xs x y zero e = absurd (let k : None ≡ Some y = e in cc)
index_stays xs x y (suc n) e = get_stays xs x y n e

-- an answer before and behind an entry at the index n
abbrev pub Grown : {A : Type 0} → ℕ → Result A Lack → Result A Lack → Type 0
Grown n (Ok x) new = new ≡ Ok x
Grown n (Err OtherKind) new = new ≡ Err OtherKind
Grown n (Err (Missing m)) new = (m ≡ n → ⊥) → new ≡ Err (Missing m)

same : {A : Type 0} (n : ℕ) (old : Result A Lack) → Grown n old old
same n (Ok x) = refl
same n (Err OtherKind) = refl
same n (Err (Missing m)) = λ h. refl

-- one answer behind another
grown_then : {A B : Type 0} (n : ℕ) (old new : Result A Lack) (f g : A → Result B Lack) → Grown n old new → ((x : A) → Grown n (f x) (g x)) → Grown n (old >>= f) (new >>= g)
grown_then {A} {B} n (Ok x) new f g h k = rw h (k x)
grown_then {A} {B} n (Err OtherKind) new f g h k = rw h refl
grown_then {A} {B} n (Err (Missing m)) new f g h k = λ other. rw (h other) refl

grown_number : (numbers : List ℕ) (number i : ℕ) → Grown (length numbers + 1) (text_number numbers i) (text_number (numbers ++ number ∷ []) i)
grown_number numbers number i = by (at_index numbers i) refl
  where
    by : (old : Option ℕ) → at_index numbers i ≡ old → Grown (length numbers + 1) (number_in i old) (number_in i (at_index (numbers ++ number ∷ []) i))
    by None e = λ h. ap (number_in i) (index_other numbers number i h ∙ e)
    by (Some x) e = rw (index_stays numbers number x i e) (same (length numbers + 1) (number_in i (Some x)))

grown_both : (numbers : List ℕ) (number name desc : ℕ) → Grown (length numbers + 1) (both_numbers numbers name desc) (both_numbers (numbers ++ number ∷ []) name desc)
grown_both numbers number name desc =
    grown_then (length numbers + 1) (text_number numbers name) (text_number (numbers ++ number ∷ []) name) _ _ (grown_number numbers number name) (λ x.
    grown_then (length numbers + 1) (text_number numbers desc) (text_number (numbers ++ number ∷ []) desc) _ _ (grown_number numbers number desc) (λ y. refl))

entry_is : (pool : List Item) (i : ℕ) → entry pool i ≡ at_index pool i
entry_is pool zero = refl
entry_is pool (suc n) = refl

pub entry_other : (pool : List Item) (x : Item) (i : ℕ) → (i ≡ length pool + 1 → ⊥) → entry (pool ++ x ∷ []) i ≡ entry pool i
entry_other pool x i h = entry_is (pool ++ x ∷ []) i ∙ index_other pool x i h ∙ sym (entry_is pool i)

pub entry_stays : (pool : List Item) (x y : Item) (i : ℕ) → entry pool i ≡ Some y → entry (pool ++ x ∷ []) i ≡ Some y
entry_stays pool x y i e = entry_is (pool ++ x ∷ []) i ∙ index_stays pool x y i (sym (entry_is pool i) ∙ e)

grown_class : (pool : List Item) (x : Item) (numbers : List ℕ) (number i : ℕ) → length pool ≡ length numbers
    → Grown (length numbers + 1) (class_number pool numbers i) (class_number (pool ++ x ∷ []) (numbers ++ number ∷ []) i)
grown_class pool x numbers number i same_length = by (entry pool i) refl
  where
    inside : (y : Item) → Grown (length numbers + 1) (class_in numbers i (Some y)) (class_in (numbers ++ number ∷ []) i (Some y))
    inside (Class name) = grown_number numbers number name
    inside _ = refl

    by : (old : Option Item) → entry pool i ≡ old → Grown (length numbers + 1) (class_in numbers i old) (class_in (numbers ++ number ∷ []) i (entry (pool ++ x ∷ []) i))
    by None e = λ h. ap (class_in (numbers ++ number ∷ []) i) (entry_other pool x i (λ k. h (k ∙ ap (λ (m : ℕ). m + 1) same_length)) ∙ e)
    by (Some y) e = rw (entry_stays pool x y i e) (inside y)

grown_pair : (pool : List Item) (x : Item) (numbers : List ℕ) (number i : ℕ) → length pool ≡ length numbers
    → Grown (length numbers + 1) (pair_numbers pool numbers i) (pair_numbers (pool ++ x ∷ []) (numbers ++ number ∷ []) i)
grown_pair pool x numbers number i same_length = by (entry pool i) refl
  where
    inside : (y : Item) → Grown (length numbers + 1) (pair_in numbers i (Some y)) (pair_in (numbers ++ number ∷ []) i (Some y))
    inside (NameAndType name desc) = grown_both numbers number name desc
    inside _ = refl

    by : (old : Option Item) → entry pool i ≡ old → Grown (length numbers + 1) (pair_in numbers i old) (pair_in (numbers ++ number ∷ []) i (entry (pool ++ x ∷ []) i))
    by None e = λ h. ap (pair_in (numbers ++ number ∷ []) i) (entry_other pool x i (λ k. h (k ∙ ap (λ (m : ℕ). m + 1) same_length)) ∙ e)
    by (Some y) e = rw (entry_stays pool x y i e) (inside y)

grown_member : (pool : List Item) (x : Item) (numbers : List ℕ) (number class member : ℕ) → length pool ≡ length numbers
    → Grown (length numbers + 1) (member_numbers pool numbers class member) (member_numbers (pool ++ x ∷ []) (numbers ++ number ∷ []) class member)
grown_member pool x numbers number class member h =
    grown_then (length numbers + 1) (class_number pool numbers class) (class_number (pool ++ x ∷ []) (numbers ++ number ∷ []) class) _ _ (grown_class pool x numbers number class h) (λ a.
    grown_then (length numbers + 1) (pair_numbers pool numbers member) (pair_numbers (pool ++ x ∷ []) (numbers ++ number ∷ []) member) _ _ (grown_pair pool x numbers number member h) (λ b. refl))

-- the key of an entry, before and behind one more
pub grown_key : (pool : List Item) (x : Item) (numbers : List ℕ) (number : ℕ) (item : Item) → length pool ≡ length numbers
    → Grown (length numbers + 1) (key_of pool numbers item) (key_of (pool ++ x ∷ []) (numbers ++ number ∷ []) item)
grown_key pool x numbers number (Class name) h = grown_then (length numbers + 1) (text_number numbers name) (text_number (numbers ++ number ∷ []) name) _ _ (grown_number numbers number name) (λ a. refl)
grown_key pool x numbers number (Str units) h = grown_then (length numbers + 1) (text_number numbers units) (text_number (numbers ++ number ∷ []) units) _ _ (grown_number numbers number units) (λ a. refl)
grown_key pool x numbers number (NameAndType name desc) h =
    grown_then (length numbers + 1) (both_numbers numbers name desc) (both_numbers (numbers ++ number ∷ []) name desc) _ _ (grown_both numbers number name desc) (λ a. refl)
grown_key pool x numbers number (Fieldref class member) h =
    grown_then (length numbers + 1) (member_numbers pool numbers class member) (member_numbers (pool ++ x ∷ []) (numbers ++ number ∷ []) class member) _ _ (grown_member pool x numbers number class member h) (λ a. refl)
grown_key pool x numbers number (Methodref class member) h =
    grown_then (length numbers + 1) (member_numbers pool numbers class member) (member_numbers (pool ++ x ∷ []) (numbers ++ number ∷ []) class member) _ _ (grown_member pool x numbers number class member h) (λ a. refl)
grown_key pool x numbers number (InterfaceMethodref class member) h =
    grown_then (length numbers + 1) (member_numbers pool numbers class member) (member_numbers (pool ++ x ∷ []) (numbers ++ number ∷ []) class member) _ _ (grown_member pool x numbers number class member h) (λ a. refl)
grown_key pool x numbers number _ h = refl
