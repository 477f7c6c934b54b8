-- Values by name.
use Rattle.std.specs.Prelude.{◌≡◌, ℕ, List, map, Option, Some, if◌then◌else◌}
use Rattle.std.specs.BTreeMap.{BTreeMap}
use Rattle.std.specs.Map.{lookup, remove_entry}
use Rattle.std.specs.Str.{bytes_eq}
use Rattle.std.specs.declared.vec.Vec.{Vec}

abbrev pub Rows : Type 0 → Type 0
Rows X = List (List ℕ × X)

abbrev pub row_of : {X Z : Type 0} → Vec ℕ Z × X → List ℕ × X
row_of entry = (entry.0.items, entry.1)

-- what a map stands for whose keys are the units of names
abbrev pub rows_of : {X Z : Type 0} → BTreeMap (Vec ℕ Z) X → Rows X
rows_of rows = map row_of rows.entries

-- the value of a name, if there is one
abbrev pub row : {X : Type 0} → List ℕ → Rows X → Option X
row name rows = lookup (λ other. bytes_eq name other) rows

-- the others of these values
abbrev pub without : {X : Type 0} → List ℕ → Rows X → Rows X
without name rows = remove_entry (λ other. bytes_eq name other) rows

-- the one has this value under the name, and else what the other has
abbrev pub Puts : {X : Type 0} → Rows X → List ℕ → X → Rows X → Type 0
Puts old name value new = (other : List ℕ) → row other new ≡ (if bytes_eq other name then Some value else row other old)
