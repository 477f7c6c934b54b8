-- Objects and their types (JVM Specification 6.5: new, checkcast, instanceof, athrow).
use Rattle.std.specs.Prelude.{ℕ, pos, List, Bool, true, false, ◌||◌, if◌then◌else◌, Option, Some, None, Result, Ok, Err, codes}
use Rattle.mvm_base.specs.Answers.{◌>>=◌}
use Rattle.mvm_base.specs.declared.value.Kind.TheVariants as kind
use Rattle.mvm_base.specs.declared.value.Word.{Word}
use Rattle.mvm_base.specs.declared.value.Word.TheVariants.{Int, Long, Ref, Null}
use Rattle.mvm_layout.specs.Flags.{has_flag}
use Rattle.mvm_layout.specs.declared.flags.TheConstants as flag
use Rattle.mvm_native.specs.declared.out.Thrown.TheVariants.{VerifyError, ClassCastException, InstantiationError}
use Rattle.mvm_set.specs.declared.class.Lineage.{Lineage}
use Rattle.mvm_table.specs.Slots.{instance_fields}
use Rattle.mvm_table.specs.declared.resolved.Resolved.{Resolved}
use Rattle.mvm_table.specs.declared.resolved.Resolved.TheVariants as resolved
use Rattle.mvm_isolate.specs.Isolate.{Isolate, stopped, new_object}
use Rattle.mvm_isolate.specs.Look.{Look}
use Rattle.mvm_isolate.specs.Instances.{is_instance}
use Rattle.mvm_isolate.specs.Types.{ReferenceType, of_class}
use Rattle.mvm_isolate.specs.declared.stop.Stop.{Stop}
use Rattle.mvm_isolate.specs.declared.stop.Stop.TheVariants as stop
use Rattle.mvm_object.specs.Entries.{once_initialised}
use Rattle.mvm_current.specs.Entries.{entry_at, type_entry, name_of}
use Rattle.mvm_object.specs.Fields.{must_be}
use Rattle.mvm_current.specs.Values.{may_push, not_null}
use Rattle.mvm_current.specs.Frames.{Frame, popped}
use Rattle.mvm_object.specs.Going.{Context, Point, Went, going_on, pushing, in_isolate, in_frame}

-- ---- new

abbrev pub a_class : Resolved → Result Lineage Stop
a_class (resolved.Class class) = Ok class
a_class _ = stopped VerifyError

-- it may have objects: it is neither an interface nor abstract
abbrev pub of_objects : Lineage → Result Lineage Stop
of_objects class = if has_flag flag.INTERFACE class.file.flags || has_flag flag.ABSTRACT class.file.flags then stopped InstantiationError else Ok class

-- the class of an entry, which may have objects
abbrev pub class_of_objects : Resolved → Result Lineage Stop
class_of_objects found = a_class found >>= of_objects

-- a new object of a class is pushed, if a reference fits on the operands
unfoldable pub object_pushed : Context → ℕ → List ℕ → ℕ → Point → Result Went Stop
object_pushed c next name fields p =
    may_push kind.Ref p.frame >>= λ may. new_object name fields p.isolate >>= λ x. pushing c next (Ref x.0) (in_isolate x.1 p)

unfoldable pub make_object : Context → ℕ → ℕ → Point → Result Went Stop
make_object c index next p =
    entry_at c.look index p.frame >>= class_of_objects >>= λ class.
    name_of class >>= λ name. once_initialised c name p (object_pushed c next name (instance_fields class.line))

-- ---- types

-- a value without what is left
abbrev pub value_of : Result (Word × Frame) Stop → Result Word Stop
value_of (Ok x) = Ok x.0
value_of (Err stop) = Err stop

-- an object is an instance of this type, if it is one
abbrev pub is_of_type : Look → Result ReferenceType Stop → ℕ → Isolate → Result Bool Stop
is_of_type look definition object s = definition >>= λ type. Ok (is_instance look type s object)

-- an object is an instance of the type that an entry names
unfoldable pub is_of_entry : Look → ℕ → Frame → ℕ → Isolate → Result Bool Stop
is_of_entry look index f object s = is_of_type look (type_entry look index f) object s

-- the reference on top passes
abbrev pub passed : Context → ℕ → Point → Result Went Stop
passed c next p = popped kind.Ref p.frame >>= λ x. pushing c next x.0 (in_frame x.1 p)

abbrev pub passed_if : Context → ℕ → Point → Bool → Result Went Stop
passed_if c next p true = passed c next p
passed_if c next p false = stopped ClassCastException

-- null passes, and its type is not looked at
abbrev pub cast : Context → ℕ → ℕ → Point → Word → Result Went Stop
cast c index next p (Ref object) = is_of_entry c.look index p.frame object p.isolate >>= passed_if c next p
cast c index next p Null = passed c next p
cast c index next p _ = stopped VerifyError

-- checkcast, by the reference on top
unfoldable pub check_cast : Context → ℕ → ℕ → Point → Result Went Stop
check_cast c index next p = value_of (popped kind.Ref p.frame) >>= cast c index next p

abbrev pub truth : Bool → Word
truth true = Int (pos 1)
truth false = Int (pos 0)

-- a truth value stands in the place of the reference on top
abbrev pub answered : Context → ℕ → Bool → Point → Result Went Stop
answered c next is p = popped kind.Ref p.frame >>= λ x. pushing c next (truth is) (in_frame x.1 p)

-- null is an instance of nothing
abbrev pub tested : Context → ℕ → ℕ → Point → Word → Result Went Stop
tested c index next p (Ref object) = is_of_entry c.look index p.frame object p.isolate >>= λ is. answered c next is p
tested c index next p Null = answered c next false p
tested c index next p _ = stopped VerifyError

-- instanceof, by the reference on top
unfoldable pub instance_of : Context → ℕ → ℕ → Point → Result Went Stop
instance_of c index next p = value_of (popped kind.Ref p.frame) >>= tested c index next p

-- ---- athrow

abbrev pub top_object : Frame → Result ℕ Stop
top_object f = value_of (popped kind.Ref f) >>= not_null

-- why the attempt stops: for the object on top of the operands, which is a Throwable
unfoldable pub thrown_object : Look → Frame → Isolate → Result Went Stop
thrown_object look f s =
    top_object f >>= λ object. must_be look (of_class (codes "java/lang/Throwable")) object s >>= λ is. Err (stop.Object object)

unfoldable pub throw_object : Context → Point → Result Went Stop
throw_object c p = thrown_object c.look p.frame p.isolate
