-- When an object is an instance of a type (JVM Specification 6.5, under instanceof).
use Rattle.std.specs.Prelude.{ℕ, Bool, false, Option, Some, None}
use Rattle.mvm_isolate.specs.Isolate.{Isolate, type_at}
use Rattle.mvm_isolate.specs.Look.{Look}
use Rattle.mvm_isolate.specs.Types.{ReferenceType, suits}

abbrev pub is_of : Look → ReferenceType → Option ReferenceType → Bool
is_of look wanted (Some type) = suits look type wanted
is_of look wanted None = false

-- the object of a number is an instance of this type
unfoldable pub is_instance : Look → ReferenceType → Isolate → ℕ → Bool
is_instance look wanted s object = is_of look wanted (type_at s object)
