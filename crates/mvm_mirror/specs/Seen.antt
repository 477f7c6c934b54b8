-- What an isolate keeps of its classes, by their names.
use Rattle.std.specs.Prelude.{◌≡◌, ℕ, zero, suc, List, [], ◌∷◌, ◌++◌, length, slice_get, ◌&&◌, if◌then◌else◌, Option, Some, None, is_some}
use Rattle.std.specs.Option.{option_map}
use Rattle.std.specs.Str.{bytes_eq}
use Rattle.mvm_base.specs.declared.value.Word.{Word}
use Rattle.mvm_set.specs.Names.{is_called, own_name}
use Rattle.mvm_set.specs.declared.class.Lineage.{Lineage}
use Rattle.mvm_mirror.specs.declared.state.InitState.{InitState}
use Rattle.mvm_mirror.specs.Statics.{slot_of, statics_of}

-- For the name of every class, added or not: its state, its static fields by name and descriptor, and the number of its class object
-- if it has one.
pub record Seen : Type 0 where
  pub states : List ℕ → InitState
  pub statics : List ℕ → List ℕ → List ℕ → Word
  pub objects : List ℕ → Option ℕ

-- ---- numbers

-- the number of the class of a name, from 0 on
abbrev pub number_of : List ℕ → List Lineage → Option ℕ
number_of name [] = None
number_of name (class ∷ classes) = if is_called name class.file then Some zero else option_map suc (number_of name classes)

abbrev pub number_named : Option (List ℕ) → List Lineage → Option ℕ
number_named (Some name) classes = number_of name classes
number_named None classes = None

-- the number of the class that has the name of this one
abbrev pub number_like : Lineage → List Lineage → Option ℕ
number_like class classes = number_named (own_name class.file) classes

-- one class more, unless one of its name is there
abbrev pub with_class : Lineage → List Lineage → List Lineage
with_class class classes = if is_some (number_like class classes) then classes else classes ++ class ∷ []

-- the class of a name has this number
abbrev pub IsNumbered : List Lineage → ℕ → List ℕ → Type 0
IsNumbered classes mirror name = number_of name classes ≡ Some mirror

-- ---- static fields

abbrev pub slots_in : Option Lineage → ℕ
slots_in (Some class) = length (statics_of class.file)
slots_in None = 0

-- how many static fields the class of a number has
abbrev pub slots : List Lineage → ℕ → ℕ
slots classes mirror = slots_in (slice_get classes mirror)

abbrev pub slot_in : List ℕ → List ℕ → Option Lineage → Option ℕ
slot_in field desc (Some class) = slot_of field desc class.file
slot_in field desc None = None

-- the slot of a class is that of its static field of this name and this descriptor
pub record IsStatic (classes : List Lineage) (mirror slot : ℕ) (name field desc : List ℕ) : Type 0 where
  pub numbered : IsNumbered classes mirror name
  pub placed : slot_in field desc (slice_get classes mirror) ≡ Some slot

-- ---- one change

-- one entry of a map
abbrev pub changed : {X : Type 0} → List ℕ → X → (List ℕ → X) → List ℕ → X
changed name value map = λ other. if bytes_eq name other then value else map other

unfoldable pub with_state : List ℕ → InitState → Seen → Seen
with_state name state seen = record seen { states = changed name state seen.states }

unfoldable pub with_object : List ℕ → ℕ → Seen → Seen
with_object name object seen = record seen { objects = changed name (Some object) seen.objects }

unfoldable pub with_static : List ℕ → List ℕ → List ℕ → Word → Seen → Seen
with_static name field desc word seen = record seen { statics = λ n f d. if bytes_eq name n && (bytes_eq field f && bytes_eq desc d) then word else seen.statics n f d }
