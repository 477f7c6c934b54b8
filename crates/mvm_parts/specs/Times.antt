-- What the objects have that are timed.
use Rattle.std.specs.Prelude.{◌≡◌, ◌<◌, ◌≤◌, ℕ, List, length}
use Rattle.mvm_heap.specs.declared.kind.ItemKind.TheVariants.{Int}
use Rattle.mvm_heap.specs.declared.kind.ObjectKind.TheVariants.{Object, Array}
use Rattle.mvm_heap.specs.Objects as heap
use Rattle.mvm_heap.specs.Heap.{object_at}

-- there is an object of this number with so many fields
abbrev pub HasFields : List heap.Object → ℕ → ℕ → Type 0
HasFields objects n count = (n < length objects) × (count ≤ length (object_at objects n).contents) × ((object_at objects n).sort ≡ Object)

-- there is an array of this number with so many ints
abbrev pub HasItems : List heap.Object → ℕ → ℕ → Type 0
HasItems objects n count = (n < length objects) × (count ≤ length (object_at objects n).contents) × ((object_at objects n).sort ≡ Array Int)
