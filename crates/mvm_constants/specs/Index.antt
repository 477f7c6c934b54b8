-- How entries are found by what they mean: each text has a number, the lowest index at which it stands, and an entry that leads to texts
-- has a key of their numbers.
use Rattle.std.specs.Prelude.{◌≡◌, ℕ, zero, suc, List, [], ◌∷◌, ◌++◌, map, Bool, true, false, ◌&&◌, ◌||◌, ◌==◌, nat_le, if◌then◌else◌, Option, Some, None, Result, Ok, Err, slice_get, unwrap_or}
use Rattle.std.specs.Ordering.{int_eq, nat_cmp}
use Rattle.std.specs.BTreeMap.{BTreeMap, get}
use Rattle.std.specs.Map.{lookup}
use Rattle.mvm_base.specs.Answers.{◌>>=◌}
use Rattle.mvm_layout.specs.Pool.{entry}
use Rattle.mvm_layout.specs.declared.parts.Item.{Item}
use Rattle.mvm_layout.specs.declared.parts.Item.TheVariants.{Utf8, Integer, Long, Class, Str, Fieldref, Methodref, InterfaceMethodref, NameAndType}
use Rattle.mvm_statement.specs.declared.pool_value.PairKind.{PairKind}
use Rattle.mvm_statement.specs.declared.pool_value.PairKind.TheVariants as pairs
use Rattle.mvm_listing.specs.Constants.{index_where, is_utf8_of}
use Rattle.mvm_constants.specs.declared.key.Key.{Key}
use Rattle.mvm_constants.specs.declared.key.Key.TheVariants as keys
use Rattle.mvm_constants.specs.declared.key.Lack.{Lack}
use Rattle.mvm_constants.specs.declared.key.Lack.TheVariants.{Missing, OtherKind}
use Rattle.mvm_constants.specs.declared.sought.Sought.{Sought}
use Rattle.mvm_constants.specs.declared.sought.Sought.TheVariants as sought

-- ---- numbers of texts

-- the lowest index at which a text stands
abbrev pub text_at : List Item → List ℕ → Option ℕ
text_at pool text = index_where (is_utf8_of text) 1 pool

-- the number of the text of an entry; 0 for an entry of another kind
abbrev pub number_of : List Item → Item → ℕ
number_of pool (Utf8 text) = unwrap_or (text_at pool text) 0
number_of pool _ = 0

abbrev pub numbers_of : List Item → List ℕ
numbers_of pool = map (number_of pool) pool

-- what stands at an index, which is counted from 1
abbrev pub at_index : {A : Type 0} → List A → ℕ → Option A
at_index xs zero = None
at_index xs (suc n) = slice_get xs n

abbrev pub number_in : ℕ → Option ℕ → Result ℕ Lack
number_in index None = Err (Missing index)
number_in index (Some number) = if number == 0 then Err OtherKind else Ok number

-- the number of the text at an index
abbrev pub text_number : List ℕ → ℕ → Result ℕ Lack
text_number numbers index = number_in index (at_index numbers index)

abbrev pub or_else : Option ℕ → Option ℕ → Option ℕ
or_else (Some n) other = Some n
or_else None other = other

-- ---- keys

abbrev pub class_in : List ℕ → ℕ → Option Item → Result ℕ Lack
class_in numbers index None = Err (Missing index)
class_in numbers index (Some (Class name)) = text_number numbers name
class_in numbers index (Some _) = Err OtherKind

-- the number of the name of the class at an index
abbrev pub class_number : List Item → List ℕ → ℕ → Result ℕ Lack
class_number pool numbers index = class_in numbers index (entry pool index)

-- the numbers of a name and a descriptor
abbrev pub both_numbers : List ℕ → ℕ → ℕ → Result (ℕ × ℕ) Lack
both_numbers numbers name desc = text_number numbers name >>= λ x. text_number numbers desc >>= λ y. Ok (x, y)

abbrev pub pair_in : List ℕ → ℕ → Option Item → Result (ℕ × ℕ) Lack
pair_in numbers index None = Err (Missing index)
pair_in numbers index (Some (NameAndType name desc)) = both_numbers numbers name desc
pair_in numbers index (Some _) = Err OtherKind

-- the same of the entry at an index
abbrev pub pair_numbers : List Item → List ℕ → ℕ → Result (ℕ × ℕ) Lack
pair_numbers pool numbers index = pair_in numbers index (entry pool index)

-- the numbers of the name of a class, and of the name and the descriptor of its member
abbrev pub member_numbers : List Item → List ℕ → ℕ → ℕ → Result (ℕ × (ℕ × ℕ)) Lack
member_numbers pool numbers class member = class_number pool numbers class >>= λ x. pair_numbers pool numbers member >>= λ y. Ok (x, y)

-- what an entry means, or why it means nothing that is looked for by a key
abbrev pub key_of : List Item → List ℕ → Item → Result Key Lack
key_of pool numbers (Integer n) = Ok (keys.Integer n)
key_of pool numbers (Long n) = Ok (keys.Long n)
key_of pool numbers (Class name) = text_number numbers name >>= λ x. Ok (keys.Class x)
key_of pool numbers (Str units) = text_number numbers units >>= λ x. Ok (keys.Str x)
key_of pool numbers (NameAndType name desc) = both_numbers numbers name desc >>= λ x. Ok (keys.Pair x.0 x.1)
key_of pool numbers (Fieldref class member) = member_numbers pool numbers class member >>= λ x. Ok (keys.Field x.0 x.1.0 x.1.1)
key_of pool numbers (Methodref class member) = member_numbers pool numbers class member >>= λ x. Ok (keys.Method x.0 x.1.0 x.1.1)
key_of pool numbers (InterfaceMethodref class member) = member_numbers pool numbers class member >>= λ x. Ok (keys.InterfaceMethod x.0 x.1.0 x.1.1)
key_of pool numbers _ = Err OtherKind

abbrev pub key_of_any : List Item → List ℕ → Option Item → Result Key Lack
key_of_any pool numbers None = Err OtherKind
key_of_any pool numbers (Some item) = key_of pool numbers item

-- the same of the entry at an index
abbrev pub key_at : List Item → List ℕ → ℕ → Result Key Lack
key_at pool numbers at = key_of_any pool numbers (entry pool at)

abbrev pub is_key : Key → Key → Bool
is_key (keys.Class a) (keys.Class x) = a == x
is_key (keys.Str a) (keys.Str x) = a == x
is_key (keys.Integer a) (keys.Integer x) = int_eq a x
is_key (keys.Long a) (keys.Long x) = int_eq a x
is_key (keys.Pair a b) (keys.Pair x y) = a == x && b == y
is_key (keys.Field a b c) (keys.Field x y z) = a == x && (b == y && c == z)
is_key (keys.Method a b c) (keys.Method x y z) = a == x && (b == y && c == z)
is_key (keys.InterfaceMethod a b c) (keys.InterfaceMethod x y z) = a == x && (b == y && c == z)
is_key _ _ = false

-- ---- what is sought, by its key

abbrev pub with_number : {A : Type 0} → Option ℕ → (ℕ → Option A) → Option A
with_number None f = None
with_number (Some x) f = f x

-- a pair of a name and a descriptor is no member
abbrev pub member_key : PairKind → ℕ → ℕ → ℕ → Option Key
member_key pairs.Fieldref class name desc = Some (keys.Field class name desc)
member_key pairs.Methodref class name desc = Some (keys.Method class name desc)
member_key pairs.InterfaceMethodref class name desc = Some (keys.InterfaceMethod class name desc)
member_key pairs.NameAndType class name desc = None

-- the key of what is sought, by the numbers of texts; there is none where a text has no number
abbrev pub key_sought : (List ℕ → Option ℕ) → Sought → Option Key
key_sought number (sought.Class name) = with_number (number name.now) (λ x. Some (keys.Class x))
key_sought number (sought.Str units) = with_number (number units.now) (λ x. Some (keys.Str x))
key_sought number (sought.Integer n) = Some (keys.Integer n)
key_sought number (sought.Long n) = Some (keys.Long n)
key_sought number (sought.Pair name desc) = with_number (number name.now) (λ x. with_number (number desc.now) (λ y. Some (keys.Pair x y)))
key_sought number (sought.Member kind class name desc) =
    with_number (number class.now) (λ x. with_number (number name.now) (λ y. with_number (number desc.now) (λ z. member_key kind x y z)))

abbrev pub is_sought : Option Key → Key → Bool
is_sought None key = false
is_sought (Some wanted) key = is_key wanted key

-- an entry of this meaning has what is sought
abbrev pub has : Option Key → Result Key Lack → Bool
has wanted (Ok key) = is_sought wanted key
has wanted (Err lack) = false

-- ---- the index

-- the lowest entries by their keys
abbrev pub Keyed : Type 0
Keyed = BTreeMap Key ℕ

abbrev pub found : Key → Keyed → Option ℕ
found key rows = lookup (λ other. is_key key other) rows.entries

-- the one has the lower of two indices under a key, and else what the other has
abbrev pub lower : Option ℕ → ℕ → ℕ
lower None at = at
lower (Some index) at = if nat_le index at then index else at

abbrev pub Lowers : Keyed → Key → ℕ → Keyed → Type 0
Lowers old key at new = (other : Key) → found other new ≡ (if is_key key other then Some (lower (found key old) at) else found other old)

-- the entries that wait for one at an index that there is not yet
abbrev pub Waiting : Type 0
Waiting = BTreeMap ℕ (List ℕ)

abbrev pub waiting_for : ℕ → Waiting → List ℕ
waiting_for index rows = unwrap_or (get nat_cmp rows index) []

abbrev pub Waits : Waiting → ℕ → ℕ → Waiting → Type 0
Waits old index at new = (other : ℕ) → waiting_for other new ≡ (if index == other then waiting_for index old ++ at ∷ [] else waiting_for other old)

abbrev pub is_among : ℕ → List ℕ → Bool
is_among n [] = false
is_among n (x ∷ xs) = n == x || is_among n xs

-- an index is found that is this one or below it
abbrev pub is_by : Option ℕ → ℕ → Bool
is_by None at = false
is_by (Some index) at = nat_le index at

-- an entry of this meaning, at this index, is found by its key or waits; where it leads to an entry of another kind, neither is wanted
abbrev pub is_settled : Keyed → Waiting → Result Key Lack → ℕ → Bool
is_settled keyed waiting (Ok key) at = is_by (found key keyed) at
is_settled keyed waiting (Err (Missing index)) at = is_among at (waiting_for index waiting)
is_settled keyed waiting (Err OtherKind) at = true

-- what is found by a key has it
abbrev pub IsSound : List Item → List ℕ → Keyed → Type 0
IsSound pool numbers keyed = (key : Key) (at : ℕ) → found key keyed ≡ Some at → has (Some key) (key_at pool numbers at) ≡ true

-- each entry is settled
abbrev pub IsComplete : List Item → List ℕ → Keyed → Waiting → Type 0
IsComplete pool numbers keyed waiting = (at : ℕ) (item : Item) → entry pool at ≡ Some item → is_settled keyed waiting (key_of pool numbers item) at ≡ true
