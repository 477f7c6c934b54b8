-- Constants and fields (JVM Specification 6.5: ldc, ldc_w, ldc2_w, getstatic, putstatic, getfield, putfield).
use Rattle.std.specs.Prelude.{ℕ, List, Bool, true, false, ◌&&◌, nat_lt, length, if◌then◌else◌, Result, Ok, Err, codes}
use Rattle.std.specs.Str.{bytes_eq}
use Rattle.mvm_base.specs.Answers.{◌>>=◌}
use Rattle.mvm_base.specs.declared.value.Kind.TheVariants as kind
use Rattle.mvm_base.specs.declared.value.Word.{Word}
use Rattle.mvm_base.specs.declared.value.Word.TheVariants.{Int, Long, Ref, Null}
use Rattle.mvm_heap.specs.Heap.{object_at, number_at}
use Rattle.mvm_heap.specs.Objects.{Object}
use Rattle.mvm_heap.specs.Sorts.{bits_of, word_of}
use Rattle.mvm_heap.specs.declared.kind.ObjectKind.{ObjectKind}
use Rattle.mvm_heap.specs.declared.kind.ObjectKind.TheVariants as sort
use Rattle.mvm_native.specs.declared.out.Thrown.TheVariants.{VerifyError}
use Rattle.mvm_set.specs.declared.class.Lineage.{Lineage}
use Rattle.mvm_table.specs.declared.resolved.Resolved.{Resolved}
use Rattle.mvm_table.specs.declared.resolved.Resolved.TheVariants as resolved
use Rattle.mvm_member.specs.Members.{MemberName, place_of}
use Rattle.mvm_isolate.specs.Faults.{looked_up}
use Rattle.mvm_isolate.specs.Initialise.{as_reference, static_set}
use Rattle.mvm_isolate.specs.Instances.{is_instance}
use Rattle.mvm_isolate.specs.Isolate.{Isolate, stopped, new_object, interned_text, class_object, with_number}
use Rattle.mvm_isolate.specs.Look.{Look}
use Rattle.mvm_isolate.specs.Members.{or_verify, is_declared}
use Rattle.mvm_isolate.specs.Thrown.{STREAM}
use Rattle.mvm_isolate.specs.Types.{ReferenceType, of_class, of_array}
use Rattle.mvm_isolate.specs.Values.{kind_by, narrowed}
use Rattle.mvm_isolate.specs.declared.stop.Stop.{Stop}
use Rattle.mvm_current.specs.Entries.{entry_at, field_entry, name_of, may_store}
use Rattle.mvm_current.specs.Frames.{Frame, popped}
use Rattle.mvm_current.specs.Values.{may_push, not_null}
use Rattle.mvm_object.specs.Entries.{once_initialised}
use Rattle.mvm_object.specs.Going.{Context, Point, Went, going_on, pushing, in_isolate, in_frame}

-- ---- constants

-- The class object of a class. The class was loaded when its entry was resolved; it is looked up again, so that every rule says something.
abbrev pub class_constant : Look → Lineage → Isolate → Result (Word × Isolate) Stop
class_constant look class s =
    name_of class >>= λ name. looked_up (look.class name) >>= λ found. as_reference (class_object (of_class name) s)

-- What an entry stands for as a value. Whether a reference fits on the operands comes before the object that is made only to be pushed.
unfoldable pub loaded_constant : Look → Frame → Isolate → Resolved → Result (Word × Isolate) Stop
loaded_constant look f s (resolved.Int n) = Ok (Int n, s)
loaded_constant look f s (resolved.Long n) = Ok (Long n, s)
loaded_constant look f s (resolved.Text units) = may_push kind.Ref f >>= λ may. as_reference (interned_text units s)
loaded_constant look f s (resolved.Class class) = may_push kind.Ref f >>= λ may. class_constant look class s
loaded_constant look f s (resolved.Array shape) = may_push kind.Ref f >>= λ may. as_reference (class_object (of_array shape) s)
loaded_constant look f s _ = stopped VerifyError

-- its value is pushed
abbrev pub constant_pushed : Context → ℕ → Resolved → Point → Result Went Stop
constant_pushed c next found p = loaded_constant c.look p.frame p.isolate found >>= λ x. pushing c next x.0 (in_isolate x.1 p)

-- ldc, ldc_w, ldc2_w: an int, a long, an interned text, a class object
unfoldable pub load_constant : Context → ℕ → ℕ → Point → Result Went Stop
load_constant c index next p = entry_at c.look index p.frame >>= λ found. constant_pushed c next found p

-- ---- static fields

abbrev pub static_word : MemberName → Isolate → Word
static_word m s = s.classes.statics m.class m.name m.desc

unfoldable pub is_out : MemberName → Bool
is_out m = bytes_eq m.class (codes "java/lang/System") && bytes_eq m.name (codes "out")

abbrev pub is_null : Word → Bool
is_null Null = true
is_null _ = false

-- a new stream, which from then on is the field's value
unfoldable pub new_stream : MemberName → Isolate → Result (Word × Isolate) Stop
new_stream m s = new_object STREAM 0 s >>= λ x. Ok (Ref x.0, static_set m.class m.name m.desc (Ref x.0) x.1)

-- The value of a static field. That of System.out is made where it is wanted for the first time, and fits on the operands.
unfoldable pub static_value : Frame → MemberName → Isolate → Result (Word × Isolate) Stop
static_value f m s = if is_out m && is_null (static_word m s) then (may_push kind.Ref f >>= λ may. new_stream m s) else Ok (static_word m s, s)

-- its value is pushed
unfoldable pub static_pushed : Context → ℕ → MemberName → Point → Result Went Stop
static_pushed c next m p =
    is_declared c.look m >>= λ is. static_value p.frame m p.isolate >>= λ x. pushing c next x.0 (in_isolate x.1 p)

unfoldable pub get_static : Context → ℕ → ℕ → Point → Result Went Stop
get_static c index next p = field_entry c.look true index p.frame >>= λ m. once_initialised c m.class p (static_pushed c next m)

-- its value is the one that is popped
unfoldable pub static_popped : Context → ℕ → MemberName → Point → Result Went Stop
static_popped c next m p =
    is_declared c.look m >>= λ is.
    popped (kind_by m.desc) p.frame >>= λ x.
    Ok (going_on c next x.1 (in_isolate (static_set m.class m.name m.desc x.0 p.isolate) p))

unfoldable pub put_static : Context → ℕ → ℕ → Point → Result Went Stop
put_static c index next p =
    field_entry c.look true index p.frame >>= λ m.
    may_store (codes "<clinit>") m p.frame >>= λ may. once_initialised c m.class p (static_popped c next m)

-- ---- instance fields

-- an object is of this type
unfoldable pub must_be : Look → ReferenceType → ℕ → Isolate → Result (Unit {0}) Stop
must_be look type object s = if is_instance look type s object then Ok tt else stopped VerifyError

-- an object with fields has one at this place; what has none is a VerifyError, so that every rule says something
abbrev pub is_with_fields : ObjectKind → Bool
is_with_fields sort.Object = true
is_with_fields _ = false

unfoldable pub within : List Object → ℕ → ℕ → Result ℕ Stop
within os object place =
    if is_with_fields (object_at os object).sort && nat_lt place (length (object_at os object).contents) then Ok place else stopped VerifyError

-- the place in an object of a field that this class declares; an instance has a place for each field of its class
abbrev pub place_in : MemberName → Lineage → ℕ → Isolate → Result ℕ Stop
place_in m class object s = or_verify (place_of m.name m.desc class) >>= within s.heap.objects object

-- where an object has the value of a field that this class declares
unfoldable pub field_place : Look → MemberName → Lineage → ℕ → Isolate → Result ℕ Stop
field_place look m class object s = must_be look (of_class m.class) object s >>= λ is. place_in m class object s

-- the value of the field of an object that is popped
unfoldable pub field_pushed : Context → ℕ → MemberName → Lineage → Point → Result Went Stop
field_pushed c next m class p =
    popped kind.Ref p.frame >>= λ x.
    not_null x.0 >>= λ object.
    field_place c.look m class object p.isolate >>= λ place.
    pushing c next (word_of (kind_by m.desc) (number_at p.isolate.heap.objects object place)) (in_frame x.1 p)

-- The class that declares the field was loaded when the field was resolved; it is looked up before a value is popped.
abbrev pub field_loaded : Context → ℕ → MemberName → Point → Result Went Stop
field_loaded c next m p = looked_up (c.look.class m.class) >>= λ class. field_pushed c next m class p

unfoldable pub get_field : Context → ℕ → ℕ → Point → Result Went Stop
get_field c index next p = field_entry c.look false index p.frame >>= λ m. field_loaded c next m p

-- a value is popped, and the object whose field has it from now on
unfoldable pub field_popped : Context → ℕ → MemberName → Lineage → Point → Result Went Stop
field_popped c next m class p =
    popped (kind_by m.desc) p.frame >>= λ x.
    popped kind.Ref x.1 >>= λ y.
    not_null y.0 >>= λ object.
    field_place c.look m class object p.isolate >>= λ place.
    Ok (going_on c next y.1 (in_isolate (with_number object place (bits_of (narrowed m.desc x.0)) p.isolate) p))

abbrev pub field_stored : Context → ℕ → MemberName → Point → Result Went Stop
field_stored c next m p = looked_up (c.look.class m.class) >>= λ class. field_popped c next m class p

unfoldable pub put_field : Context → ℕ → ℕ → Point → Result Went Stop
put_field c index next p =
    field_entry c.look false index p.frame >>= λ m. may_store (codes "<init>") m p.frame >>= λ may. field_stored c next m p
