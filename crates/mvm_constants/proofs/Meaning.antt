-- What an entry means, by texts and by their numbers.
use Rattle.std.proofs.Common.{◌≡◌, ℕ, ℤ, suc, zero, Bool, true, false, ◌&&◌, List, Option, Some, None, Result, Ok, Err, refl, sym, ap, ◌∙◌, arith, slice_get, option_map, unwrap_or, eq-eqb, ne_eqb, true≢false, ◌==◌, bytes_eq}
use Rattle.std.proofs.lemmas.Option.{slice_get-map}
use Rattle.std.proofs.lemmas.Slice.Eq.{bytes_eq-Decides}
use Rattle.std.specs.Ordering.{int_eq}
use Rattle.std.proofs.lemmas.Cmp.{int_eq_equiv}
use Rattle.mvm_base.specs.Answers.{◌>>=◌}
use Rattle.mvm_layout.specs.Pool.{entry, text, text_of, is_text, class_name, class_name_of}
use Rattle.mvm_layout.specs.declared.parts.Item.{Item}
use Rattle.mvm_layout.specs.declared.parts.Item.TheVariants.{Utf8, Integer, Long, Class, Str, Fieldref, Methodref, InterfaceMethodref, NameAndType}
use Rattle.mvm_statement.specs.declared.pool_value.PairKind.TheVariants as pairs
use Rattle.mvm_listing.specs.Constants.{is_utf8_of, is_pair_of, are_of}
use Rattle.mvm_constants.specs.declared.key.Key.{Key}
use Rattle.mvm_constants.specs.declared.key.Key.TheVariants as keys
use Rattle.mvm_constants.specs.declared.key.Lack.{Lack}
use Rattle.mvm_constants.specs.declared.sought.Sought.{Sought}
use Rattle.mvm_constants.specs.declared.sought.Sought.TheVariants as sought
use Rattle.mvm_constants.specs.Search.{means}
use Rattle.mvm_constants.specs.Index.{text_at, number_of, numbers_of, number_in, text_number, class_in, class_number, both_numbers, pair_in, pair_numbers, member_numbers, key_of, is_key, is_sought, with_number, key_sought, has}
use Rattle.mvm_constants.proofs.Lowest.{stands, Reached, reached}

-- ---- texts

abbrev is_this : Option ℕ → ℕ → Bool
is_this None n = false
is_this (Some wanted) n = wanted == n

abbrev is_number : Option ℕ → Result ℕ Lack → Bool
is_number wanted (Ok n) = is_this wanted n
is_number wanted (Err lack) = false

same_text : (xs ys : List ℕ) → bytes_eq xs ys ≡ true → xs ≡ ys
same_text xs ys h = (bytes_eq-Decides xs ys).0 h

-- a text that stands at an index has a number
number_is : (pool : List Item) (text wanted : List ℕ) (place : ℕ) → slice_get pool place ≡ Some (Utf8 text)
    → bytes_eq text wanted ≡ is_number (text_at pool wanted) (number_in (suc place) (Some (unwrap_or (text_at pool text) 0)))
number_is pool text wanted place e = by (reached (is_utf8_of text) 1 place (Utf8 text) pool e ((bytes_eq-Decides text text).1 refl))
  where
    apart : (t n : ℕ) → text_at pool text ≡ Some n → text_at pool wanted ≡ Some t → t ≡ n → bytes_eq text wanted ≡ true
    apart t n f w k =
        let s = stands (is_utf8_of text) 1 n pool f in
        let r = stands (is_utf8_of wanted) 1 t pool w in
        let p : s.place ≡ r.place = omega (arith, s.counted, r.counted, k) in
        let i : Some s.item ≡ Some r.item = sym s.there ∙ ap (slice_get pool) p ∙ r.there in
        both s.item r.item (let j : s.item ≡ r.item = cc in j) s.passes r.passes
      where
        both : (x y : Item) → x ≡ y → is_utf8_of text x ≡ true → is_utf8_of wanted y ≡ true → bytes_eq text wanted ≡ true
        both (Utf8 u) y h a b =
            let m : is_utf8_of wanted (Utf8 u) ≡ true = ap (is_utf8_of wanted) h ∙ b in
            (bytes_eq-Decides text wanted).1 (sym (same_text u text a) ∙ same_text u wanted m)
        both _ y h a b = absurd (true≢false (sym a))

    shown : (b : Bool) (n : ℕ) → bytes_eq text wanted ≡ b → text_at pool text ≡ Some n → b ≡ is_this (text_at pool wanted) n
    shown true n h f = let k : text_at pool wanted ≡ Some n = ap (text_at pool) (sym (same_text text wanted h)) ∙ f in rw k (sym (eq-eqb n n refl))
    shown false n h f = no (text_at pool wanted) refl
      where
        no : (w : Option ℕ) → text_at pool wanted ≡ w → false ≡ is_this w n
        no None k = refl
        no (Some t) k = sym (ne_eqb t n (λ same. true≢false (sym (apart t n f k same) ∙ h)))

    by : Reached (is_utf8_of text) 1 place pool → bytes_eq text wanted ≡ is_number (text_at pool wanted) (number_in (suc place) (Some (unwrap_or (text_at pool text) 0)))
    by r =
        let z : (r.index == 0) ≡ false = ne_eqb r.index 0 (λ k. absurd (omega (arith, k, r.high))) in
        rw (r.is, z) (shown (bytes_eq text wanted) r.index refl r.is)

-- a text is wanted where its number is
pub text_is : (pool : List Item) (wanted : List ℕ) (n : ℕ) → is_text wanted (text pool n) ≡ is_number (text_at pool wanted) (text_number (numbers_of pool) n)
text_is pool wanted zero = refl
text_is pool wanted (suc place) =
    by (slice_get pool place) refl
    ∙ ap (λ (x : Option ℕ). is_number (text_at pool wanted) (number_in (suc place) x)) (sym (slice_get-map (number_of pool) pool place))
  where
    by : (x : Option Item) → slice_get pool place ≡ x → is_text wanted (text_of (slice_get pool place)) ≡ is_number (text_at pool wanted) (number_in (suc place) (option_map (number_of pool) (slice_get pool place)))
    by None e = rw e refl
    by (Some (Utf8 t)) e = let h = number_is pool t wanted place e in rw e h
    by (Some _) e = rw e refl

-- ---- what leads to texts

class_is : (pool : List Item) (wanted : List ℕ) (n : ℕ) → is_text wanted (class_name pool n) ≡ is_number (text_at pool wanted) (class_number pool (numbers_of pool) n)
class_is pool wanted n = by (entry pool n)
  where
    by : (x : Option Item) → is_text wanted (class_name_of pool x) ≡ is_number (text_at pool wanted) (class_in (numbers_of pool) n x)
    by None = refl
    by (Some (Class name)) = text_is pool wanted name
    by (Some _) = refl

abbrev is_both : Option ℕ → Option ℕ → Result (ℕ × ℕ) Lack → Bool
is_both one other (Ok x) = is_this one x.0 && is_this other x.1
is_both one other (Err lack) = false

both_split : (one other : Option ℕ) (r s : Result ℕ Lack) → is_number one r && is_number other s ≡ is_both one other (r >>= λ x. s >>= λ y. Ok (x, y))
both_split one other (Ok x) (Ok y) = refl
both_split one other (Ok x) (Err lack) = none (is_this one x)
  where
    none : (b : Bool) → (b && false) ≡ false
    none true = refl
    none false = refl
both_split one other (Err lack) s = refl

both_is : (pool : List Item) (name desc : List ℕ) (a b : ℕ)
    → is_text name (text pool a) && is_text desc (text pool b) ≡ is_both (text_at pool name) (text_at pool desc) (both_numbers (numbers_of pool) a b)
both_is pool name desc a b =
    ap (λ (x : Bool). x && is_text desc (text pool b)) (text_is pool name a)
    ∙ ap (λ (x : Bool). is_number (text_at pool name) (text_number (numbers_of pool) a) && x) (text_is pool desc b)
    ∙ both_split (text_at pool name) (text_at pool desc) (text_number (numbers_of pool) a) (text_number (numbers_of pool) b)

pair_is : (pool : List Item) (name desc : List ℕ) (n : ℕ) → is_pair_of pool name desc (entry pool n) ≡ is_both (text_at pool name) (text_at pool desc) (pair_numbers pool (numbers_of pool) n)
pair_is pool name desc n = by (entry pool n)
  where
    by : (x : Option Item) → is_pair_of pool name desc x ≡ is_both (text_at pool name) (text_at pool desc) (pair_in (numbers_of pool) n x)
    by None = refl
    by (Some (NameAndType a b)) = both_is pool name desc a b
    by (Some _) = refl

abbrev is_all : Option ℕ → Option ℕ → Option ℕ → Result (ℕ × (ℕ × ℕ)) Lack → Bool
is_all class name desc (Ok x) = is_this class x.0 && (is_this name x.1.0 && is_this desc x.1.1)
is_all class name desc (Err lack) = false

all_split : (class name desc : Option ℕ) (r : Result ℕ Lack) (s : Result (ℕ × ℕ) Lack) → is_number class r && is_both name desc s ≡ is_all class name desc (r >>= λ x. s >>= λ y. Ok (x, y))
all_split class name desc (Ok x) (Ok y) = refl
all_split class name desc (Ok x) (Err lack) = none (is_this class x)
  where
    none : (b : Bool) → (b && false) ≡ false
    none true = refl
    none false = refl
all_split class name desc (Err lack) s = refl

member_is : (pool : List Item) (class name desc : List ℕ) (a b : ℕ)
    → are_of pool class name desc a b ≡ is_all (text_at pool class) (text_at pool name) (text_at pool desc) (member_numbers pool (numbers_of pool) a b)
member_is pool class name desc a b =
    ap (λ (x : Bool). x && is_pair_of pool name desc (entry pool b)) (class_is pool class a)
    ∙ ap (λ (x : Bool). is_number (text_at pool class) (class_number pool (numbers_of pool) a) && x) (pair_is pool name desc b)
    ∙ all_split (text_at pool class) (text_at pool name) (text_at pool desc) (class_number pool (numbers_of pool) a) (pair_numbers pool (numbers_of pool) b)

-- ---- keys

-- a key of one text
one_has : (make : ℕ → Key) → ((a x : ℕ) → is_key (make a) (make x) ≡ (a == x)) → (wanted : Option ℕ) (r : Result ℕ Lack)
    → is_number wanted r ≡ has (with_number wanted (λ x. Some (make x))) (r >>= λ x. Ok (make x))
one_has make same None (Ok x) = refl
one_has make same (Some a) (Ok x) = sym (same a x)
one_has make same wanted (Err lack) = refl

-- a key of two
two_has : (one other : Option ℕ) (r : Result (ℕ × ℕ) Lack)
    → is_both one other r ≡ has (with_number one (λ x. with_number other (λ y. Some (keys.Pair x y)))) (r >>= λ x. Ok (keys.Pair x.0 x.1))
two_has None other (Ok x) = refl
two_has (Some a) None (Ok x) = none (a == x.0)
  where
    none : (b : Bool) → (b && false) ≡ false
    none true = refl
    none false = refl
two_has (Some a) (Some b) (Ok x) = refl
two_has one other (Err lack) = refl

-- a key of three
three_has : (make : ℕ → ℕ → ℕ → Key) → ((a b c x y z : ℕ) → is_key (make a b c) (make x y z) ≡ (a == x && (b == y && c == z)))
    → (class name desc : Option ℕ) (r : Result (ℕ × (ℕ × ℕ)) Lack)
    → is_all class name desc r ≡ has (with_number class (λ x. with_number name (λ y. with_number desc (λ z. Some (make x y z))))) (r >>= λ x. Ok (make x.0 x.1.0 x.1.1))
three_has make same None name desc (Ok x) = refl
three_has make same (Some a) None desc (Ok x) = none (a == x.0)
  where
    none : (b : Bool) → (b && false) ≡ false
    none true = refl
    none false = refl
three_has make same (Some a) (Some b) None (Ok x) = none (a == x.0) (b == x.1.0)
  where
    none : (b c : Bool) → (b && (c && false)) ≡ false
    none true true = refl
    none true false = refl
    none false c = refl
three_has make same (Some a) (Some b) (Some c) (Ok x) = sym (same a b c x.0 x.1.0 x.1.1)
three_has make same class name desc (Err lack) = refl

-- an entry of another kind has not what is sought
other_kind : {A : Type 0} (wanted : Option Key) (r : Result A Lack) (make : A → Key) → ((x : A) → is_sought wanted (make x) ≡ false) → false ≡ has wanted (r >>= λ x. Ok (make x))
other_kind {A} wanted (Ok x) make h = sym (h x)
other_kind {A} wanted (Err lack) make h = refl

none_of_one : (make : ℕ → Key) (key : Key) → ((a : ℕ) → is_key (make a) key ≡ false) → (wanted : Option ℕ) → is_sought (with_number wanted (λ x. Some (make x))) key ≡ false
none_of_one make key h None = refl
none_of_one make key h (Some a) = h a

none_of_two : (key : Key) → ((a b : ℕ) → is_key (keys.Pair a b) key ≡ false) → (one other : Option ℕ) → is_sought (with_number one (λ x. with_number other (λ y. Some (keys.Pair x y)))) key ≡ false
none_of_two key h None other = refl
none_of_two key h (Some a) None = refl
none_of_two key h (Some a) (Some b) = h a b

none_of_three : (make : ℕ → ℕ → ℕ → Option Key) (key : Key) → ((a b c : ℕ) → is_sought (make a b c) key ≡ false) → (class name desc : Option ℕ)
    → is_sought (with_number class (λ x. with_number name (λ y. with_number desc (λ z. make x y z)))) key ≡ false
none_of_three make key h None name desc = refl
none_of_three make key h (Some a) None desc = refl
none_of_three make key h (Some a) (Some b) None = refl
none_of_three make key h (Some a) (Some b) (Some c) = h a b c

abbrev wanted_in : List Item → Sought → Option Key
wanted_in pool x = key_sought (text_at pool) x

int_back : (n m : ℤ) → int_eq n m ≡ int_eq m n
int_back n m = int_eq_equiv.symm n m

-- an entry means what is sought where it has its key
pub means_is : (pool : List Item) (x : Sought) (item : Item) → means pool x item ≡ has (wanted_in pool x) (key_of pool (numbers_of pool) item)
means_is pool (sought.Class w) (Integer n) = sym (none_of_one keys.Class (keys.Integer n) (λ a. refl) (text_at pool w.now))
means_is pool (sought.Class w) (Long n) = sym (none_of_one keys.Class (keys.Long n) (λ a. refl) (text_at pool w.now))
means_is pool (sought.Class w) (Class n) = text_is pool w.now n ∙ one_has keys.Class (λ a x. refl) (text_at pool w.now) (text_number (numbers_of pool) n)
means_is pool (sought.Class w) (Str n) = other_kind (wanted_in pool (sought.Class w)) (text_number (numbers_of pool) n) keys.Str (λ y. none_of_one keys.Class (keys.Str y) (λ a. refl) (text_at pool w.now))
means_is pool (sought.Class w) (Fieldref a b) = other_kind (wanted_in pool (sought.Class w)) (member_numbers pool (numbers_of pool) a b) (λ y. keys.Field y.0 y.1.0 y.1.1) (λ y. none_of_one keys.Class (keys.Field y.0 y.1.0 y.1.1) (λ a. refl) (text_at pool w.now))
means_is pool (sought.Class w) (Methodref a b) = other_kind (wanted_in pool (sought.Class w)) (member_numbers pool (numbers_of pool) a b) (λ y. keys.Method y.0 y.1.0 y.1.1) (λ y. none_of_one keys.Class (keys.Method y.0 y.1.0 y.1.1) (λ a. refl) (text_at pool w.now))
means_is pool (sought.Class w) (InterfaceMethodref a b) = other_kind (wanted_in pool (sought.Class w)) (member_numbers pool (numbers_of pool) a b) (λ y. keys.InterfaceMethod y.0 y.1.0 y.1.1) (λ y. none_of_one keys.Class (keys.InterfaceMethod y.0 y.1.0 y.1.1) (λ a. refl) (text_at pool w.now))
means_is pool (sought.Class w) (NameAndType a b) = other_kind (wanted_in pool (sought.Class w)) (both_numbers (numbers_of pool) a b) (λ y. keys.Pair y.0 y.1) (λ y. none_of_one keys.Class (keys.Pair y.0 y.1) (λ a. refl) (text_at pool w.now))
means_is pool (sought.Class w) _ = refl
means_is pool (sought.Str w) (Integer n) = sym (none_of_one keys.Str (keys.Integer n) (λ a. refl) (text_at pool w.now))
means_is pool (sought.Str w) (Long n) = sym (none_of_one keys.Str (keys.Long n) (λ a. refl) (text_at pool w.now))
means_is pool (sought.Str w) (Class n) = other_kind (wanted_in pool (sought.Str w)) (text_number (numbers_of pool) n) keys.Class (λ y. none_of_one keys.Str (keys.Class y) (λ a. refl) (text_at pool w.now))
means_is pool (sought.Str w) (Str n) = text_is pool w.now n ∙ one_has keys.Str (λ a x. refl) (text_at pool w.now) (text_number (numbers_of pool) n)
means_is pool (sought.Str w) (Fieldref a b) = other_kind (wanted_in pool (sought.Str w)) (member_numbers pool (numbers_of pool) a b) (λ y. keys.Field y.0 y.1.0 y.1.1) (λ y. none_of_one keys.Str (keys.Field y.0 y.1.0 y.1.1) (λ a. refl) (text_at pool w.now))
means_is pool (sought.Str w) (Methodref a b) = other_kind (wanted_in pool (sought.Str w)) (member_numbers pool (numbers_of pool) a b) (λ y. keys.Method y.0 y.1.0 y.1.1) (λ y. none_of_one keys.Str (keys.Method y.0 y.1.0 y.1.1) (λ a. refl) (text_at pool w.now))
means_is pool (sought.Str w) (InterfaceMethodref a b) = other_kind (wanted_in pool (sought.Str w)) (member_numbers pool (numbers_of pool) a b) (λ y. keys.InterfaceMethod y.0 y.1.0 y.1.1) (λ y. none_of_one keys.Str (keys.InterfaceMethod y.0 y.1.0 y.1.1) (λ a. refl) (text_at pool w.now))
means_is pool (sought.Str w) (NameAndType a b) = other_kind (wanted_in pool (sought.Str w)) (both_numbers (numbers_of pool) a b) (λ y. keys.Pair y.0 y.1) (λ y. none_of_one keys.Str (keys.Pair y.0 y.1) (λ a. refl) (text_at pool w.now))
means_is pool (sought.Str w) _ = refl
means_is pool (sought.Integer m) (Integer n) = int_back n m
means_is pool (sought.Integer m) (Long n) = sym (refl)
means_is pool (sought.Integer m) (Class n) = other_kind (wanted_in pool (sought.Integer m)) (text_number (numbers_of pool) n) keys.Class (λ y. refl)
means_is pool (sought.Integer m) (Str n) = other_kind (wanted_in pool (sought.Integer m)) (text_number (numbers_of pool) n) keys.Str (λ y. refl)
means_is pool (sought.Integer m) (Fieldref a b) = other_kind (wanted_in pool (sought.Integer m)) (member_numbers pool (numbers_of pool) a b) (λ y. keys.Field y.0 y.1.0 y.1.1) (λ y. refl)
means_is pool (sought.Integer m) (Methodref a b) = other_kind (wanted_in pool (sought.Integer m)) (member_numbers pool (numbers_of pool) a b) (λ y. keys.Method y.0 y.1.0 y.1.1) (λ y. refl)
means_is pool (sought.Integer m) (InterfaceMethodref a b) = other_kind (wanted_in pool (sought.Integer m)) (member_numbers pool (numbers_of pool) a b) (λ y. keys.InterfaceMethod y.0 y.1.0 y.1.1) (λ y. refl)
means_is pool (sought.Integer m) (NameAndType a b) = other_kind (wanted_in pool (sought.Integer m)) (both_numbers (numbers_of pool) a b) (λ y. keys.Pair y.0 y.1) (λ y. refl)
means_is pool (sought.Integer m) _ = refl
means_is pool (sought.Long m) (Integer n) = sym (refl)
means_is pool (sought.Long m) (Long n) = int_back n m
means_is pool (sought.Long m) (Class n) = other_kind (wanted_in pool (sought.Long m)) (text_number (numbers_of pool) n) keys.Class (λ y. refl)
means_is pool (sought.Long m) (Str n) = other_kind (wanted_in pool (sought.Long m)) (text_number (numbers_of pool) n) keys.Str (λ y. refl)
means_is pool (sought.Long m) (Fieldref a b) = other_kind (wanted_in pool (sought.Long m)) (member_numbers pool (numbers_of pool) a b) (λ y. keys.Field y.0 y.1.0 y.1.1) (λ y. refl)
means_is pool (sought.Long m) (Methodref a b) = other_kind (wanted_in pool (sought.Long m)) (member_numbers pool (numbers_of pool) a b) (λ y. keys.Method y.0 y.1.0 y.1.1) (λ y. refl)
means_is pool (sought.Long m) (InterfaceMethodref a b) = other_kind (wanted_in pool (sought.Long m)) (member_numbers pool (numbers_of pool) a b) (λ y. keys.InterfaceMethod y.0 y.1.0 y.1.1) (λ y. refl)
means_is pool (sought.Long m) (NameAndType a b) = other_kind (wanted_in pool (sought.Long m)) (both_numbers (numbers_of pool) a b) (λ y. keys.Pair y.0 y.1) (λ y. refl)
means_is pool (sought.Long m) _ = refl
means_is pool (sought.Pair p q) (Integer n) = sym (none_of_two (keys.Integer n) (λ a b. refl) (text_at pool p.now) (text_at pool q.now))
means_is pool (sought.Pair p q) (Long n) = sym (none_of_two (keys.Long n) (λ a b. refl) (text_at pool p.now) (text_at pool q.now))
means_is pool (sought.Pair p q) (Class n) = other_kind (wanted_in pool (sought.Pair p q)) (text_number (numbers_of pool) n) keys.Class (λ y. none_of_two (keys.Class y) (λ a b. refl) (text_at pool p.now) (text_at pool q.now))
means_is pool (sought.Pair p q) (Str n) = other_kind (wanted_in pool (sought.Pair p q)) (text_number (numbers_of pool) n) keys.Str (λ y. none_of_two (keys.Str y) (λ a b. refl) (text_at pool p.now) (text_at pool q.now))
means_is pool (sought.Pair p q) (Fieldref a b) = other_kind (wanted_in pool (sought.Pair p q)) (member_numbers pool (numbers_of pool) a b) (λ y. keys.Field y.0 y.1.0 y.1.1) (λ y. none_of_two (keys.Field y.0 y.1.0 y.1.1) (λ a b. refl) (text_at pool p.now) (text_at pool q.now))
means_is pool (sought.Pair p q) (Methodref a b) = other_kind (wanted_in pool (sought.Pair p q)) (member_numbers pool (numbers_of pool) a b) (λ y. keys.Method y.0 y.1.0 y.1.1) (λ y. none_of_two (keys.Method y.0 y.1.0 y.1.1) (λ a b. refl) (text_at pool p.now) (text_at pool q.now))
means_is pool (sought.Pair p q) (InterfaceMethodref a b) = other_kind (wanted_in pool (sought.Pair p q)) (member_numbers pool (numbers_of pool) a b) (λ y. keys.InterfaceMethod y.0 y.1.0 y.1.1) (λ y. none_of_two (keys.InterfaceMethod y.0 y.1.0 y.1.1) (λ a b. refl) (text_at pool p.now) (text_at pool q.now))
means_is pool (sought.Pair p q) (NameAndType a b) = both_is pool p.now q.now a b ∙ two_has (text_at pool p.now) (text_at pool q.now) (both_numbers (numbers_of pool) a b)
means_is pool (sought.Pair p q) _ = refl
means_is pool (sought.Member pairs.Fieldref c p q) (Integer n) = sym (none_of_three (λ a b c. Some (keys.Field a b c)) (keys.Integer n) (λ a b c. refl) (text_at pool c.now) (text_at pool p.now) (text_at pool q.now))
means_is pool (sought.Member pairs.Fieldref c p q) (Long n) = sym (none_of_three (λ a b c. Some (keys.Field a b c)) (keys.Long n) (λ a b c. refl) (text_at pool c.now) (text_at pool p.now) (text_at pool q.now))
means_is pool (sought.Member pairs.Fieldref c p q) (Class n) = other_kind (wanted_in pool (sought.Member pairs.Fieldref c p q)) (text_number (numbers_of pool) n) keys.Class (λ y. none_of_three (λ a b c. Some (keys.Field a b c)) (keys.Class y) (λ a b c. refl) (text_at pool c.now) (text_at pool p.now) (text_at pool q.now))
means_is pool (sought.Member pairs.Fieldref c p q) (Str n) = other_kind (wanted_in pool (sought.Member pairs.Fieldref c p q)) (text_number (numbers_of pool) n) keys.Str (λ y. none_of_three (λ a b c. Some (keys.Field a b c)) (keys.Str y) (λ a b c. refl) (text_at pool c.now) (text_at pool p.now) (text_at pool q.now))
means_is pool (sought.Member pairs.Fieldref c p q) (Fieldref a b) = member_is pool c.now p.now q.now a b ∙ three_has keys.Field (λ a b c x y z. refl) (text_at pool c.now) (text_at pool p.now) (text_at pool q.now) (member_numbers pool (numbers_of pool) a b)
means_is pool (sought.Member pairs.Fieldref c p q) (Methodref a b) = other_kind (wanted_in pool (sought.Member pairs.Fieldref c p q)) (member_numbers pool (numbers_of pool) a b) (λ y. keys.Method y.0 y.1.0 y.1.1) (λ y. none_of_three (λ a b c. Some (keys.Field a b c)) (keys.Method y.0 y.1.0 y.1.1) (λ a b c. refl) (text_at pool c.now) (text_at pool p.now) (text_at pool q.now))
means_is pool (sought.Member pairs.Fieldref c p q) (InterfaceMethodref a b) = other_kind (wanted_in pool (sought.Member pairs.Fieldref c p q)) (member_numbers pool (numbers_of pool) a b) (λ y. keys.InterfaceMethod y.0 y.1.0 y.1.1) (λ y. none_of_three (λ a b c. Some (keys.Field a b c)) (keys.InterfaceMethod y.0 y.1.0 y.1.1) (λ a b c. refl) (text_at pool c.now) (text_at pool p.now) (text_at pool q.now))
means_is pool (sought.Member pairs.Fieldref c p q) (NameAndType a b) = other_kind (wanted_in pool (sought.Member pairs.Fieldref c p q)) (both_numbers (numbers_of pool) a b) (λ y. keys.Pair y.0 y.1) (λ y. none_of_three (λ a b c. Some (keys.Field a b c)) (keys.Pair y.0 y.1) (λ a b c. refl) (text_at pool c.now) (text_at pool p.now) (text_at pool q.now))
means_is pool (sought.Member pairs.Fieldref c p q) _ = refl
means_is pool (sought.Member pairs.Methodref c p q) (Integer n) = sym (none_of_three (λ a b c. Some (keys.Method a b c)) (keys.Integer n) (λ a b c. refl) (text_at pool c.now) (text_at pool p.now) (text_at pool q.now))
means_is pool (sought.Member pairs.Methodref c p q) (Long n) = sym (none_of_three (λ a b c. Some (keys.Method a b c)) (keys.Long n) (λ a b c. refl) (text_at pool c.now) (text_at pool p.now) (text_at pool q.now))
means_is pool (sought.Member pairs.Methodref c p q) (Class n) = other_kind (wanted_in pool (sought.Member pairs.Methodref c p q)) (text_number (numbers_of pool) n) keys.Class (λ y. none_of_three (λ a b c. Some (keys.Method a b c)) (keys.Class y) (λ a b c. refl) (text_at pool c.now) (text_at pool p.now) (text_at pool q.now))
means_is pool (sought.Member pairs.Methodref c p q) (Str n) = other_kind (wanted_in pool (sought.Member pairs.Methodref c p q)) (text_number (numbers_of pool) n) keys.Str (λ y. none_of_three (λ a b c. Some (keys.Method a b c)) (keys.Str y) (λ a b c. refl) (text_at pool c.now) (text_at pool p.now) (text_at pool q.now))
means_is pool (sought.Member pairs.Methodref c p q) (Fieldref a b) = other_kind (wanted_in pool (sought.Member pairs.Methodref c p q)) (member_numbers pool (numbers_of pool) a b) (λ y. keys.Field y.0 y.1.0 y.1.1) (λ y. none_of_three (λ a b c. Some (keys.Method a b c)) (keys.Field y.0 y.1.0 y.1.1) (λ a b c. refl) (text_at pool c.now) (text_at pool p.now) (text_at pool q.now))
means_is pool (sought.Member pairs.Methodref c p q) (Methodref a b) = member_is pool c.now p.now q.now a b ∙ three_has keys.Method (λ a b c x y z. refl) (text_at pool c.now) (text_at pool p.now) (text_at pool q.now) (member_numbers pool (numbers_of pool) a b)
means_is pool (sought.Member pairs.Methodref c p q) (InterfaceMethodref a b) = other_kind (wanted_in pool (sought.Member pairs.Methodref c p q)) (member_numbers pool (numbers_of pool) a b) (λ y. keys.InterfaceMethod y.0 y.1.0 y.1.1) (λ y. none_of_three (λ a b c. Some (keys.Method a b c)) (keys.InterfaceMethod y.0 y.1.0 y.1.1) (λ a b c. refl) (text_at pool c.now) (text_at pool p.now) (text_at pool q.now))
means_is pool (sought.Member pairs.Methodref c p q) (NameAndType a b) = other_kind (wanted_in pool (sought.Member pairs.Methodref c p q)) (both_numbers (numbers_of pool) a b) (λ y. keys.Pair y.0 y.1) (λ y. none_of_three (λ a b c. Some (keys.Method a b c)) (keys.Pair y.0 y.1) (λ a b c. refl) (text_at pool c.now) (text_at pool p.now) (text_at pool q.now))
means_is pool (sought.Member pairs.Methodref c p q) _ = refl
means_is pool (sought.Member pairs.InterfaceMethodref c p q) (Integer n) = sym (none_of_three (λ a b c. Some (keys.InterfaceMethod a b c)) (keys.Integer n) (λ a b c. refl) (text_at pool c.now) (text_at pool p.now) (text_at pool q.now))
means_is pool (sought.Member pairs.InterfaceMethodref c p q) (Long n) = sym (none_of_three (λ a b c. Some (keys.InterfaceMethod a b c)) (keys.Long n) (λ a b c. refl) (text_at pool c.now) (text_at pool p.now) (text_at pool q.now))
means_is pool (sought.Member pairs.InterfaceMethodref c p q) (Class n) = other_kind (wanted_in pool (sought.Member pairs.InterfaceMethodref c p q)) (text_number (numbers_of pool) n) keys.Class (λ y. none_of_three (λ a b c. Some (keys.InterfaceMethod a b c)) (keys.Class y) (λ a b c. refl) (text_at pool c.now) (text_at pool p.now) (text_at pool q.now))
means_is pool (sought.Member pairs.InterfaceMethodref c p q) (Str n) = other_kind (wanted_in pool (sought.Member pairs.InterfaceMethodref c p q)) (text_number (numbers_of pool) n) keys.Str (λ y. none_of_three (λ a b c. Some (keys.InterfaceMethod a b c)) (keys.Str y) (λ a b c. refl) (text_at pool c.now) (text_at pool p.now) (text_at pool q.now))
means_is pool (sought.Member pairs.InterfaceMethodref c p q) (Fieldref a b) = other_kind (wanted_in pool (sought.Member pairs.InterfaceMethodref c p q)) (member_numbers pool (numbers_of pool) a b) (λ y. keys.Field y.0 y.1.0 y.1.1) (λ y. none_of_three (λ a b c. Some (keys.InterfaceMethod a b c)) (keys.Field y.0 y.1.0 y.1.1) (λ a b c. refl) (text_at pool c.now) (text_at pool p.now) (text_at pool q.now))
means_is pool (sought.Member pairs.InterfaceMethodref c p q) (Methodref a b) = other_kind (wanted_in pool (sought.Member pairs.InterfaceMethodref c p q)) (member_numbers pool (numbers_of pool) a b) (λ y. keys.Method y.0 y.1.0 y.1.1) (λ y. none_of_three (λ a b c. Some (keys.InterfaceMethod a b c)) (keys.Method y.0 y.1.0 y.1.1) (λ a b c. refl) (text_at pool c.now) (text_at pool p.now) (text_at pool q.now))
means_is pool (sought.Member pairs.InterfaceMethodref c p q) (InterfaceMethodref a b) = member_is pool c.now p.now q.now a b ∙ three_has keys.InterfaceMethod (λ a b c x y z. refl) (text_at pool c.now) (text_at pool p.now) (text_at pool q.now) (member_numbers pool (numbers_of pool) a b)
means_is pool (sought.Member pairs.InterfaceMethodref c p q) (NameAndType a b) = other_kind (wanted_in pool (sought.Member pairs.InterfaceMethodref c p q)) (both_numbers (numbers_of pool) a b) (λ y. keys.Pair y.0 y.1) (λ y. none_of_three (λ a b c. Some (keys.InterfaceMethod a b c)) (keys.Pair y.0 y.1) (λ a b c. refl) (text_at pool c.now) (text_at pool p.now) (text_at pool q.now))
means_is pool (sought.Member pairs.InterfaceMethodref c p q) _ = refl
means_is pool (sought.Member pairs.NameAndType c p q) (Integer n) = sym (none_of_three (λ a b c. None) (keys.Integer n) (λ a b c. refl) (text_at pool c.now) (text_at pool p.now) (text_at pool q.now))
means_is pool (sought.Member pairs.NameAndType c p q) (Long n) = sym (none_of_three (λ a b c. None) (keys.Long n) (λ a b c. refl) (text_at pool c.now) (text_at pool p.now) (text_at pool q.now))
means_is pool (sought.Member pairs.NameAndType c p q) (Class n) = other_kind (wanted_in pool (sought.Member pairs.NameAndType c p q)) (text_number (numbers_of pool) n) keys.Class (λ y. none_of_three (λ a b c. None) (keys.Class y) (λ a b c. refl) (text_at pool c.now) (text_at pool p.now) (text_at pool q.now))
means_is pool (sought.Member pairs.NameAndType c p q) (Str n) = other_kind (wanted_in pool (sought.Member pairs.NameAndType c p q)) (text_number (numbers_of pool) n) keys.Str (λ y. none_of_three (λ a b c. None) (keys.Str y) (λ a b c. refl) (text_at pool c.now) (text_at pool p.now) (text_at pool q.now))
means_is pool (sought.Member pairs.NameAndType c p q) (Fieldref a b) = other_kind (wanted_in pool (sought.Member pairs.NameAndType c p q)) (member_numbers pool (numbers_of pool) a b) (λ y. keys.Field y.0 y.1.0 y.1.1) (λ y. none_of_three (λ a b c. None) (keys.Field y.0 y.1.0 y.1.1) (λ a b c. refl) (text_at pool c.now) (text_at pool p.now) (text_at pool q.now))
means_is pool (sought.Member pairs.NameAndType c p q) (Methodref a b) = other_kind (wanted_in pool (sought.Member pairs.NameAndType c p q)) (member_numbers pool (numbers_of pool) a b) (λ y. keys.Method y.0 y.1.0 y.1.1) (λ y. none_of_three (λ a b c. None) (keys.Method y.0 y.1.0 y.1.1) (λ a b c. refl) (text_at pool c.now) (text_at pool p.now) (text_at pool q.now))
means_is pool (sought.Member pairs.NameAndType c p q) (InterfaceMethodref a b) = other_kind (wanted_in pool (sought.Member pairs.NameAndType c p q)) (member_numbers pool (numbers_of pool) a b) (λ y. keys.InterfaceMethod y.0 y.1.0 y.1.1) (λ y. none_of_three (λ a b c. None) (keys.InterfaceMethod y.0 y.1.0 y.1.1) (λ a b c. refl) (text_at pool c.now) (text_at pool p.now) (text_at pool q.now))
means_is pool (sought.Member pairs.NameAndType c p q) (NameAndType a b) = other_kind (wanted_in pool (sought.Member pairs.NameAndType c p q)) (both_numbers (numbers_of pool) a b) (λ y. keys.Pair y.0 y.1) (λ y. none_of_three (λ a b c. None) (keys.Pair y.0 y.1) (λ a b c. refl) (text_at pool c.now) (text_at pool p.now) (text_at pool q.now))
means_is pool (sought.Member pairs.NameAndType c p q) _ = refl
