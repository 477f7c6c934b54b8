-- The labels of a code by their names.
use Rattle.std.specs.Prelude.{◌≡◌, ℕ, List, [], ◌∷◌, ◌++◌, true, Option, is_some, map}
use Rattle.std.specs.BTreeMap.{BTreeMap}
use Rattle.std.specs.Map.{lookup}
use Rattle.std.specs.Str.{bytes_eq}
use Rattle.std.specs.declared.vec.Vec.{Vec}
use Rattle.mvm_statement.specs.declared.fault.AsmKind.TheVariants as kinds
use Rattle.mvm_listing.specs.declared.fault.StepFault.{StepFault}
use Rattle.mvm_listing.specs.declared.fault.StepFault.TheVariants.{Kind, OutOfMemory}
use Rattle.mvm_listing.specs.declared.piece.Catching.{Catching}
use Rattle.mvm_listing.specs.Blocks.{Labels, Block, labelled}

-- a label where the code so far ends
abbrev pub with_label : List ℕ → Block → Block
with_label name b = record b { labels = b.labels ++ (name, b.end) ∷ [] }

-- a row of the exception table behind all others
abbrev pub with_row : Catching → Block → Block
with_row row b = record b { rows = b.rows ++ row ∷ [] }

-- a label is refused only where its name was given before
abbrev pub IsTwice : StepFault → Labels → List ℕ → Type 0
IsTwice (Kind kind) labels name = (kind ≡ kinds.Label) × (is_some (labelled labels name) ≡ true)
IsTwice OutOfMemory labels name = Unit {0}

-- ---- the map

abbrev pub row_of : {Z : Type 0} → Vec ℕ Z × ℕ → List ℕ × ℕ
row_of entry = (entry.0.items, entry.1)

-- what a map gives for a name
abbrev pub found : {Z : Type 0} → BTreeMap (Vec ℕ Z) ℕ → List ℕ → Option ℕ
found places name = lookup (λ other. bytes_eq name other) (map row_of places.entries)

-- a map gives the place of each label
abbrev pub HasPlaces : {Z : Type 0} → Labels → BTreeMap (Vec ℕ Z) ℕ → Type 0
HasPlaces given places = (name : List ℕ) → found places name ≡ labelled given name
