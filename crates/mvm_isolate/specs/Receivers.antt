-- What an object may be stored in, caught as, and called on (JVM Specification 2.10; 6.5, under aastore and invokevirtual).
use Rattle.std.specs.Prelude.{ℕ, ◌-◌, ◌==◌, List, Bool, false, if◌then◌else◌, Option, Some, None, Result, Ok}
use Rattle.mvm_base.specs.declared.descriptor.Base.{Base}
use Rattle.mvm_base.specs.declared.descriptor.Base.TheVariants.{Object}
use Rattle.mvm_native.specs.declared.out.Thrown.TheVariants.{VerifyError}
use Rattle.mvm_isolate.specs.Instances.{is_instance}
use Rattle.mvm_isolate.specs.Isolate.{Isolate, stopped, type_at}
use Rattle.mvm_isolate.specs.Look.{Look, extends}
use Rattle.mvm_isolate.specs.Types.{ReferenceType, of_class, of_array, OBJECT}
use Rattle.mvm_isolate.specs.declared.stop.Stop.{Stop}

-- what the items of an array of this shape are, where they are references
abbrev pub element_of_base : Base → Option ReferenceType
element_of_base (Object name) = Some (of_class name)
element_of_base _ = None

abbrev pub element_of : Option ReferenceType → Option ReferenceType
element_of (Some (of_array shape)) = if shape.dims == 1 then element_of_base shape.base else Some (of_array (record shape { dims = shape.dims - 1 }))
element_of _ = None

abbrev pub is_item_of : Look → Isolate → Option ReferenceType → ℕ → Bool
is_item_of look s (Some type) object = is_instance look type s object
is_item_of look s None object = false

-- an object is an instance of what the items of an array are
unfoldable pub is_element : Look → Isolate → ℕ → ℕ → Bool
is_element look s array object = is_item_of look s (element_of (type_at s array)) object

-- an object of this type is caught as one of the class of a name: its class is that class, or has it as a superclass; no array is
abbrev pub is_thrown_as : Look → List ℕ → Option ReferenceType → Bool
is_thrown_as look name (Some (of_class class)) = extends look class name
is_thrown_as look name _ = false

-- the class in which a method is selected for an object; an array has the methods of Object (JLS 10.7)
abbrev pub class_of_type : Option ReferenceType → Result (List ℕ) Stop
class_of_type (Some (of_class name)) = Ok name
class_of_type (Some (of_array shape)) = Ok OBJECT
class_of_type None = stopped VerifyError
