-- The call of a native method, but for what its answer means for the thread (JVM Specification 6.5, under invokevirtual).
use Rattle.std.specs.Prelude.{ℕ, List, [], ◌∷◌, Bool, true, false, not, ◌&&◌, ◌||◌, ◌==◌, if◌then◌else◌, Result, Ok, Err}
use Rattle.std.specs.Str.{bytes_eq}
use Rattle.mvm_base.specs.declared.descriptor.Base.{Base}
use Rattle.mvm_base.specs.declared.descriptor.Base.TheVariants.{Object}
use Rattle.mvm_base.specs.declared.descriptor.FieldShape.{FieldShape}
use Rattle.mvm_base.specs.declared.value.Word.{Word}
use Rattle.mvm_base.specs.declared.value.Word.TheVariants.{Ref}
use Rattle.mvm_builtin.specs.declared.natives.Native.{Native}
use Rattle.mvm_heap.specs.Heap.{object_at}
use Rattle.mvm_history.specs.declared.launch.Launch.{Launch}
use Rattle.mvm_native.specs.Calls.{called}
use Rattle.mvm_native.specs.Needs.{fits}
use Rattle.mvm_native.specs.Strings.{is_text}
use Rattle.mvm_native.specs.declared.env.LinkUse.{LinkUse}
use Rattle.mvm_native.specs.declared.out.Out.{Out}
use Rattle.mvm_native.specs.declared.out.Thrown.TheVariants.{VerifyError}
use Rattle.mvm_isolate.specs.declared.stop.Stop.{Stop}
use Rattle.mvm_isolate.specs.Instances.{is_instance}
use Rattle.mvm_isolate.specs.Isolate.{Isolate, stopped, machine_in, after_native}
use Rattle.mvm_isolate.specs.Look.{Look}
use Rattle.mvm_isolate.specs.Types.{ReferenceType, of_class, of_array, STRING}
use Rattle.mvm_base.specs.declared.memory.OutOfMemory.{OutOfMemory}
use Rattle.mvm_isolate.specs.declared.stop.Stop.TheVariants as stop

abbrev pub type_of_base : Base → FieldShape → ReferenceType
type_of_base (Object name) shape = of_class name
type_of_base base shape = of_array shape

-- what a parameter of this shape takes, where it takes references
abbrev pub type_of_shape : FieldShape → ReferenceType
type_of_shape shape = if shape.dims == 0 then type_of_base shape.base shape else of_array shape

abbrev pub is_string : ReferenceType → Bool
is_string (of_class name) = bytes_eq name STRING
is_string (of_array shape) = false

-- an object of class String is a text, unless `new` made it
abbrev pub is_text_at : Isolate → ℕ → Bool
is_text_at s object = is_text (object_at s.heap.objects object).sort

-- A value is no reference, or refers to an instance of that type; where a String is needed, to a text.
unfoldable pub value_suits : Look → Isolate → ReferenceType → Word → Bool
value_suits look s type (Ref object) = is_instance look type s object && (not (is_string type) || is_text_at s object)
value_suits look s type _ = true

-- the arguments suit the types, one by one
abbrev pub all_suit : Look → Isolate → List ReferenceType → List Word → Bool
all_suit look s [] words = true
all_suit look s (type ∷ types) [] = false
all_suit look s (type ∷ types) (word ∷ words) = value_suits look s type word && all_suit look s types words

-- What a native method answers a thread, and what it leaves. Arguments that are not what it takes them for are a VerifyError.
unfoldable pub native_called : Launch → ℕ → List LinkUse → Native → List Word → Isolate → Result (Out × Isolate) Stop
native_called launch thread links native args s =
    if fits native args (machine_in launch thread links s)
    then Ok ((called native args (machine_in launch thread links s)).0, after_native (called native args (machine_in launch thread links s)).1 s)
    else stopped VerifyError

-- what an attempt comes to where a native method answered, or memory ran out
abbrev pub out_or : Result Out OutOfMemory → Result Out Stop
out_or (Ok out) = Ok out
out_or (Err refused) = Err stop.OutOfMemory
