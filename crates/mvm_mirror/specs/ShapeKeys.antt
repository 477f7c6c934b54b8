-- How a shape is looked up without memory: the names of classes have numbers, and with these a shape has a key.
use Rattle.std.specs.Prelude.{◌≡◌, ◌<◌, ◌≤◌, ℕ, List, Bool, true, false, ◌==◌, ◌&&◌, Option, Some, None}
use Rattle.std.specs.BTreeMap.{BTreeMap}
use Rattle.std.specs.Map.{lookup}
use Rattle.std.specs.Option.{option_map, option_and_then}
use Rattle.mvm_base.specs.declared.descriptor.Base.{Base}
use Rattle.mvm_base.specs.declared.descriptor.Base.TheVariants.{Boolean, Byte, Char, Short, Int, Long, Object}
use Rattle.mvm_base.specs.declared.descriptor.FieldShape.{FieldShape}
use Rattle.mvm_mirror.specs.declared.shape_numbers.BaseKey.{BaseKey}
use Rattle.mvm_mirror.specs.declared.shape_numbers.BaseKey.TheVariants as keys
use Rattle.mvm_mirror.specs.declared.shape_numbers.ShapeKey.{ShapeKey}

abbrev pub base_key : (List ℕ → Option ℕ) → Base → Option BaseKey
base_key names Boolean = Some keys.Boolean
base_key names Byte = Some keys.Byte
base_key names Char = Some keys.Char
base_key names Short = Some keys.Short
base_key names Int = Some keys.Int
base_key names Long = Some keys.Long
base_key names (Object name) = option_map keys.Object (names name)

abbrev pub key_of : (List ℕ → Option ℕ) → FieldShape → Option ShapeKey
key_of names shape = option_map (λ base. record { dims = shape.dims; base = base }) (base_key names shape.base)

-- ---- keys that are one

abbrev pub is_base_key : BaseKey → BaseKey → Bool
is_base_key keys.Boolean keys.Boolean = true
is_base_key keys.Byte keys.Byte = true
is_base_key keys.Char keys.Char = true
is_base_key keys.Short keys.Short = true
is_base_key keys.Int keys.Int = true
is_base_key keys.Long keys.Long = true
is_base_key (keys.Object number) (keys.Object other) = number == other
is_base_key _ _ = false

abbrev pub is_key : ShapeKey → ShapeKey → Bool
is_key key other = key.dims == other.dims && is_base_key key.base other.base

-- the number under a key
abbrev pub number_under : BTreeMap ShapeKey ℕ → ShapeKey → Option ℕ
number_under numbers key = lookup (λ other. is_key key other) numbers.entries

-- ---- shapes by their keys

abbrev pub found_by : (List ℕ → Option ℕ) → (ShapeKey → Option ℕ) → FieldShape → Option ℕ
found_by names numbers shape = option_and_then numbers (key_of names shape)

-- what is kept of names that have numbers, below the next one
pub record AreSound (names : List ℕ → Option ℕ) (next : ℕ) (numbers : ShapeKey → Option ℕ) : Type 0 where
  pub below : (name : List ℕ) (number : ℕ) → names name ≡ Some number → number < next
  -- two names of one number are one name
  pub apart : (name other : List ℕ) (number : ℕ) → names name ≡ Some number → names other ≡ Some number → name ≡ other
  -- there is no key yet of a number that no name has
  pub unused : (dims number : ℕ) → next ≤ number → numbers (record { dims = dims; base = keys.Object number }) ≡ None
