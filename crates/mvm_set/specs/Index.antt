-- A file's members, to be looked up: texts have numbers, and pairs of numbers have places.
use Rattle.std.specs.Prelude.{◌≡◌, ◌==◌, ◌&&◌, ℕ, List, Bool, false, if◌then◌else◌, IsSome, Option, Some, None}
use Rattle.std.specs.BTreeMap as tree
use Rattle.std.specs.BTreeMap.{BTreeMap}
use Rattle.std.specs.Ordering.{nat_cmp, ordering_then}
use Rattle.std.specs.declared.cmp.Ordering.{Ordering}
use Rattle.mvm_layout.specs.Pool.{text}
use Rattle.mvm_layout.specs.declared.parts.Item.{Item}
use Rattle.mvm_layout.specs.declared.parts.Member.{Member}
use Rattle.mvm_set.specs.Members.{member_from}

-- a number is the index of an entry that has the text
abbrev pub AreNumbers : List Item → (List ℕ → Option ℕ) → Type 0
AreNumbers pool numbers = (name : List ℕ) (index : ℕ) → numbers name ≡ Some index → text pool index ≡ Some name

-- the text of an index, where there is one, has a number
abbrev pub HasNumber : List Item → (List ℕ → Option ℕ) → ℕ → Type 0
HasNumber pool numbers index = (name : List ℕ) → text pool index ≡ Some name → IsSome (numbers name)

-- the name and the descriptor of a member have numbers
abbrev pub HasNumbers : List Item → (List ℕ → Option ℕ) → Member → Type 0
HasNumbers pool numbers member = HasNumber pool numbers member.name × HasNumber pool numbers member.desc

-- what has a number keeps one
abbrev pub KeepNumbers : (List ℕ → Option ℕ) → (List ℕ → Option ℕ) → Type 0
KeepNumbers old new = (name : List ℕ) → IsSome (old name) → IsSome (new name)

abbrev pub number_in : (List ℕ → Option ℕ) → Option (List ℕ) → Option ℕ
number_in numbers (Some name) = numbers name
number_in numbers None = None

abbrev pub pair_cmp : ℕ × ℕ → ℕ × ℕ → Ordering
pair_cmp one other = ordering_then (nat_cmp one.0 other.0) (nat_cmp one.1 other.1)

-- the place of a pair of numbers
abbrev pub place_of : BTreeMap (ℕ × ℕ) ℕ → Option ℕ → Option ℕ → Option ℕ
place_of places (Some name) (Some desc) = tree.get pair_cmp places (name, desc)
place_of places (Some name) None = None
place_of places None desc = None

abbrev pub is_pair : Option ℕ → Option ℕ → ℕ → ℕ → Bool
is_pair (Some name) (Some desc) a b = (name == a) && (desc == b)
is_pair (Some name) None a b = false
is_pair None desc a b = false

-- one more pair of numbers has a place, and the others theirs
abbrev pub AddsPlace : Option ℕ → Option ℕ → ℕ → BTreeMap (ℕ × ℕ) ℕ → BTreeMap (ℕ × ℕ) ℕ → Type 0
AddsPlace name desc at old new = (a b : ℕ) → tree.get pair_cmp new (a, b) ≡ (if is_pair name desc a b then Some at else tree.get pair_cmp old (a, b))

-- the place of each name and descriptor is that of the first member that has them
abbrev pub IsIndex : ℕ → (List ℕ → Option ℕ) → BTreeMap (ℕ × ℕ) ℕ → List Item → List Member → Type 0
IsIndex at numbers places pool members = (name desc : List ℕ) → place_of places (numbers name) (numbers desc) ≡ member_from at pool name desc members
