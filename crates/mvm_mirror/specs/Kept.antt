-- How the mirrors in memory stand for what is seen by names.
use Rattle.std.specs.Prelude.{◌≡◌, ◌<◌, ◌^◌, ℕ, List, map, length, slice_get, slice_set, slice_index_or, Option, Some, None}
use Rattle.std.specs.Option.{option_and_then}
use Rattle.mvm_base.specs.declared.value.Word.{Word}
use Rattle.mvm_set.specs.Names.{own_name}
use Rattle.mvm_set.specs.declared.class.Lineage.{Lineage}
use Rattle.mvm_mirror.specs.declared.mirror.Mirror.{Mirror}
use Rattle.mvm_mirror.specs.declared.state.InitState.{InitState}
use Rattle.mvm_mirror.specs.declared.state.InitState.TheVariants.{NotBegun}
use Rattle.mvm_mirror.specs.States.{first_state}
use Rattle.mvm_mirror.specs.Statics.{zero_of, zeros, slot_of, statics_of}
use Rattle.mvm_mirror.specs.Seen.{Seen, number_of, number_like}

abbrev pub classes_of : List Mirror → List Lineage
classes_of mirrors = map (λ mirror. mirror.class) mirrors

-- the mirror of the class of a name
abbrev pub mirror_of : List ℕ → List Mirror → Option Mirror
mirror_of name mirrors = option_and_then (slice_get mirrors) (number_of name (classes_of mirrors))

abbrev pub state_in : List ℕ → Option Mirror → InitState
state_in name (Some mirror) = mirror.state
state_in name None = first_state name

abbrev pub word_at : List ℕ → List Word → Option ℕ → Word
word_at desc words (Some slot) = slice_index_or words slot (zero_of desc)
word_at desc words None = zero_of desc

abbrev pub static_in : List ℕ → List ℕ → Option Mirror → Word
static_in field desc (Some mirror) = word_at desc mirror.statics (slot_of field desc mirror.class.file)
static_in field desc None = zero_of desc

abbrev pub object_in : Option Mirror → Option ℕ
object_in (Some mirror) = mirror.object
object_in None = None

unfoldable pub states : List Mirror → List ℕ → InitState
states mirrors name = state_in name (mirror_of name mirrors)

unfoldable pub statics : List Mirror → List ℕ → List ℕ → List ℕ → Word
statics mirrors name field desc = static_in field desc (mirror_of name mirrors)

unfoldable pub objects : List Mirror → List ℕ → Option ℕ
objects mirrors name = object_in (mirror_of name mirrors)

abbrev pub seen_of : List Mirror → Seen
seen_of mirrors = record { states = states mirrors; statics = statics mirrors; objects = objects mirrors }

-- ---- a class that was not looked at

abbrev pub first_state_of : Option (List ℕ) → InitState
first_state_of (Some name) = first_state name
first_state_of None = NotBegun

abbrev pub fresh : Lineage → Mirror
fresh class = record { class = class; state = first_state_of (own_name class.file); statics = zeros class.file; object = None }

-- ---- what is kept

pub record IsKept (number : List ℕ → Option ℕ) (mirrors : List Mirror) : Type 0 where
  -- the map from names to numbers is that of the classes
  pub numbers : (name : List ℕ) → number name ≡ number_of name (classes_of mirrors)
  -- each class stands at the number of its name
  pub own : (mirror : ℕ) (class : Lineage) → slice_get (classes_of mirrors) mirror ≡ Some class → number_like class (classes_of mirrors) ≡ Some mirror
  -- each has as many values as static fields
  pub full : (place : ℕ) (mirror : Mirror) → slice_get mirrors place ≡ Some mirror → length mirror.statics ≡ length (statics_of mirror.class.file)
  pub few : length mirrors < 2 ^ 32

-- ---- one mirror changed

-- the mirror of a number is another now
abbrev pub Changes : (Mirror → Mirror) → ℕ → List Mirror → List Mirror → Type 0
Changes change number old new = (mirror : Mirror) × (slice_get old number ≡ Some mirror) × (new ≡ slice_set old number (change mirror))
