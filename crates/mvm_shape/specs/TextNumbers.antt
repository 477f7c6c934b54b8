-- Numbers for the texts of the constant pool, alike where the texts are equal, and the pairs of them that members had so far.
use denote.Ref.{Bor}
use Rattle.std.specs.Prelude.{◌≡◌, ℕ, ◌-◌, List, [], ◌∷◌, ◌++◌, Bool, false, ◌&&◌, ◌==◌, slice_get, slice_index, Option, Some, None, ◌⊎◌}
use Rattle.std.specs.List.{list_any}
use Rattle.std.specs.Option.{option_map}
use Rattle.std.specs.declared.cmp.Ordering.{Ordering}
use Rattle.std.specs.Ordering.{nat_cmp, ordering_then}
use Rattle.std.specs.Cmp.Lexicographic.{slice_cmp}
use Rattle.std.specs.BTreeMap as tree
use Rattle.std.specs.BTreeMap.{BTreeMap}
use Rattle.std.specs.BTreeSet as sorted
use Rattle.std.specs.BTreeSet.{BTreeSet}
use Rattle.mvm_layout.specs.declared.parts.Item.{Item}
use Rattle.mvm_layout.specs.declared.info.MemberInfo.{MemberInfo}
use Rattle.mvm_layout.specs.Pool.{text_of, text}
use Rattle.mvm_shape.specs.Members.{is_repeated}

-- the number that a map has for a text
abbrev pub look : BTreeMap (Bor (List ℕ)) ℕ → List ℕ → Option ℕ
look m name = tree.get_by (λ k. slice_cmp nat_cmp name k.now) m

-- The text at a place, if there is one there, has a number, which is the place itself where the text is new.
pub record Numbered (found : Option (List ℕ)) (at : ℕ) (old : List ℕ → Option ℕ) (number : ℕ) (new : List ℕ → Option ℕ) : Type 0 where
  pub kept : (name : List ℕ) (n : ℕ) → old name ≡ Some n → new name ≡ Some n
  pub known : (name : List ℕ) → found ≡ Some name → new name ≡ Some number
  pub only : (name : List ℕ) (n : ℕ) → new name ≡ Some n → (old name ≡ Some n) ⊎ ((found ≡ Some name) × (n ≡ at))

-- the text of the entry at a place, which is counted from 0
abbrev pub text_at : List Item → ℕ → Option (List ℕ)
text_at pool n = text_of (slice_get pool n)

-- The number of a text is a place where an equal text stands, and equal texts have one number.
pub record AreNumbers (pool : List Item) (numbers : List ℕ) : Type 0 where
  pub alike : (i j : ℕ) (name : List ℕ) → text_at pool i ≡ Some name → text_at pool j ≡ Some name → slice_index numbers i ≡ slice_index numbers j
  pub stand : (i : ℕ) (name : List ℕ) → text_at pool i ≡ Some name → text_at pool (slice_index numbers i) ≡ Some name

-- the number of the text of an index
abbrev pub number_at : List Item → List ℕ → ℕ → Option ℕ
number_at pool numbers index = option_map (λ (name : List ℕ). slice_index numbers (index - 1)) (text pool index)

abbrev pub is_number : ℕ → Option ℕ → Bool
is_number n (Some m) = n == m
is_number n None = false

abbrev pub is_pair : Option ℕ → Option ℕ → ℕ → ℕ → Bool
is_pair name desc a b = is_number a name && is_number b desc

abbrev pub has_pair : (ℕ → ℕ → Bool) → Option ℕ → Option ℕ → Bool
has_pair holds (Some a) (Some b) = holds a b
has_pair holds _ _ = false

abbrev pub pair_cmp : ℕ × ℕ → ℕ × ℕ → Ordering
pair_cmp x y = ordering_then (nat_cmp x.0 y.0) (nat_cmp x.1 y.1)

abbrev pub holds_pair : BTreeSet (ℕ × ℕ) → ℕ → ℕ → Bool
holds_pair pairs a b = sorted.contains pair_cmp pairs (a, b)

-- the pairs are those of the names and descriptors of the members before
pub record Holds (pool : List Item) (numbers : List ℕ) (holds : ℕ → ℕ → Bool) (before : List MemberInfo) : Type 0 where
  pub all : (a b : ℕ) → holds a b ≡ list_any (λ (member : MemberInfo). is_pair (number_at pool numbers member.name) (number_at pool numbers member.desc) a b) before

-- a member was told to be repeated or not, and its pair was added
pub record Adds (pool : List Item) (numbers : List ℕ) (old new : ℕ → ℕ → Bool) (member : MemberInfo) (repeated : Bool) : Type 0 where
  pub tells : (before : List MemberInfo) → Holds pool numbers old before → repeated ≡ is_repeated pool before member
  pub next : (before : List MemberInfo) → Holds pool numbers old before → Holds pool numbers new (before ++ member ∷ [])
