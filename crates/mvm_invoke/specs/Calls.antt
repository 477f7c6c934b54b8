-- Calls (JVM Specification 6.5: invokestatic, invokevirtual, invokespecial, invokeinterface).
use Rattle.std.specs.Prelude.{ℕ, ◌+◌, List, [], ◌∷◌, Bool, true, false, not, ◌&&◌, max, if◌then◌else◌, Option, Some, None, Result, Ok, Err, codes}
use Rattle.std.specs.Option.{option_map}
use Rattle.std.specs.Str.{bytes_eq}
use Rattle.mvm_base.specs.Answers.{◌>>=◌}
use Rattle.mvm_base.specs.declared.value.Word.{Word}
use Rattle.mvm_frame.specs.declared.slot.Slot.{Slot}
use Rattle.mvm_builtin.specs.Natives.{native_method}
use Rattle.mvm_builtin.specs.declared.natives.Native.{Native}
use Rattle.mvm_layout.specs.Flags.{has_flag, is_static, is_interface}
use Rattle.mvm_layout.specs.Pool.{class_name, member}
use Rattle.mvm_layout.specs.declared.flags.TheConstants as flag
use Rattle.mvm_layout.specs.declared.parts.Code.{Code}
use Rattle.mvm_layout.specs.declared.parts.Member.{Member}
use Rattle.mvm_native.specs.declared.out.Thrown.{Thrown}
use Rattle.mvm_native.specs.declared.out.Thrown.TheVariants.{VerifyError, NoSuchMethodError, IncompatibleClassChangeError, AbstractMethodError, UnsatisfiedLinkError, StackOverflowError}
use Rattle.mvm_select.specs.Told.{method_found, virtual_selection, interface_selection, special_selection}
use Rattle.mvm_set.specs.Names.{superclass}
use Rattle.mvm_set.specs.declared.class.Lineage.{Lineage}
use Rattle.mvm_set.specs.declared.fault.LinkFault.{LinkFault}
use Rattle.mvm_set.specs.declared.found.Found.{Found}
use Rattle.mvm_set.specs.declared.found.MethodAt.{MethodAt}
use Rattle.mvm_table.specs.declared.resolved.Resolved.{Resolved}
use Rattle.mvm_table.specs.declared.resolved.Resolved.TheVariants as resolved
use Rattle.mvm_isolate.specs.Faults.{looked_up, selected_or}
use Rattle.mvm_isolate.specs.Isolate.{Isolate, stopped, type_at, class_object}
use Rattle.mvm_isolate.specs.Look.{Look, is_sub}
use Rattle.mvm_isolate.specs.Members.{or_verify, method_in}
use Rattle.mvm_member.specs.Members.{MemberName, method_named}
use Rattle.mvm_isolate.specs.Instances.{is_instance}
use Rattle.mvm_isolate.specs.Receivers.{class_of_type}
use Rattle.mvm_isolate.specs.Thrown.{THREAD}
use Rattle.mvm_isolate.specs.Types.{of_class}
use Rattle.mvm_isolate.specs.declared.stop.Stop.{Stop}
use Rattle.mvm_current.specs.Arguments.{shape_of, kinds_of, widths, arguments, receiver_in}
use Rattle.mvm_object.specs.Entries.{once_initialised}
use Rattle.mvm_current.specs.Entries.{entry_at}
use Rattle.mvm_current.specs.Frames.{Runs, method, Frame, called_frame, without, has_room}
use Rattle.mvm_initialise.specs.Locks.{class_locked, known_locked}
use Rattle.mvm_initialise.specs.declared.locks.Lock.{Lock}
use Rattle.mvm_initialise.specs.declared.locks.Lock.TheVariants.{Entered, Waits}
use Rattle.mvm_object.specs.Going.{Context, Point, Went, does, ready, entering, stays, in_isolate}
use Rattle.mvm_invoke.specs.NativeCalls.{native_call}
use Rattle.mvm_invoke.specs.declared.heads.Head.{Head}
use Rattle.mvm_invoke.specs.declared.heads.Size.{Size}
use Rattle.mvm_invoke.specs.declared.passed.Passed.{Passed}
use Rattle.mvm_invoke.specs.declared.receivers.Received.{Received}

-- ---- what a call names

-- a resolved method, by its places and by its names
abbrev pub Target : Type 0
Target = MethodAt × MemberName

abbrev pub a_target : MethodAt → Option MemberName → Result Target Stop
a_target m (Some name) = Ok (m, name)
a_target m None = stopped VerifyError

abbrev pub a_method : Resolved → Result Target Stop
a_method (resolved.Method m) = a_target m (method_named m)
a_method _ = stopped VerifyError

abbrev pub class_of_reference : Lineage → Option (ℕ × ℕ) → Option (List ℕ)
class_of_reference class (Some indices) = class_name class.file.pool indices.0
class_of_reference class None = None

abbrev pub class_referred : Look → ℕ → Runs → Result (List ℕ) Stop
class_referred look index (method class name desc) = looked_up (look.class class) >>= λ found. or_verify (class_of_reference found (member found.file.pool index))
class_referred look index _ = stopped VerifyError

-- the class that the reference of an index names
unfoldable pub referred : Look → ℕ → Frame → Result (List ℕ) Stop
referred look index f = class_referred look index f.runs

abbrev pub is_constructor : MemberName → Bool
is_constructor m = bytes_eq m.name (codes "<init>")

-- a constructor is one of the class that the reference names, or there is none (2.9, 5.4.3.3)
abbrev pub own_constructor : List ℕ → Target → Result Target Stop
own_constructor class t = if is_constructor t.1 && not (bytes_eq t.1.class class) then stopped NoSuchMethodError else Ok t

abbrev pub fits_call : Bool → Target → Result Target Stop
fits_call true t = if is_static t.1.flags then Ok t else stopped IncompatibleClassChangeError
fits_call false t = if is_static t.1.flags then stopped IncompatibleClassChangeError else Ok t

abbrev pub suiting : Bool → List ℕ → Target → Result Target Stop
suiting static class t = own_constructor class t >>= fits_call static

-- the method that a call names, which is static or is not
unfoldable pub call_target : Look → Bool → ℕ → Frame → Result Target Stop
call_target look static index f =
    entry_at look index f >>= a_method >>= λ t.
    referred look index f >>= λ class. suiting static class t

-- ---- what a call passes

-- the arguments of a call by a descriptor, on top of these operands
unfoldable pub passed_by : Bool → List ℕ → List Slot → Result Passed Stop
passed_by static desc operands =
    shape_of desc >>= λ shape.
    arguments (kinds_of static shape) operands >>= λ words.
    Ok (record { shape = shape; arguments = words; slots = widths (kinds_of static shape) })

-- ---- what a call looks at of a method

abbrev pub size_of : Code → Size
size_of code = record { locals = code.max_locals; depth = code.max_stack }

-- its flags, and of its code how many local variables and operands it has
abbrev pub head_of : Member → Head
head_of m = record { flags = m.flags; size = option_map size_of m.code }

-- those of the method of this name and descriptor that the class of a name declares
unfoldable pub head_in : Look → MemberName → Result Head Stop
head_in look m = method_in look m.class m.name m.desc >>= λ found. Ok (head_of found)

abbrev pub thrown_without_code : ℕ → Thrown
thrown_without_code flags = if has_flag flag.ABSTRACT flags then AbstractMethodError else UnsatisfiedLinkError

-- what is thrown for a method without code: it is abstract, or native and none of the machine's own (4.6)
abbrev pub without_code : Member → Thrown
without_code m = thrown_without_code m.flags

-- ---- frames

-- the frame of a method with code stands on the caller, with its arguments; the caller's pc stays at the call
abbrev pub framed : Context → MemberName → Size → Option ℕ → ℕ → Point → Went
framed c m size lock slots p = record {
  isolate = p.isolate;
  frames = called_frame (method m.class m.name m.desc) lock size.locals size.depth slots p.frame.body.operands.slots ∷ without slots p.frame ∷ p.callers;
  object = c.object;
  after = does ready;
}

-- The monitor that a synchronized method enters, where no other thread owns it: of the class object, or of the receiver (2.11.10).
unfoldable pub lock_of : ℕ → Bool → List ℕ → List Word → Isolate → Result (Lock × Isolate) Stop
lock_of thread true class words s = class_locked true thread class s
lock_of thread false class words s = receiver_in words >>= λ object. known_locked true thread object s

abbrev pub in_lock : Context → MemberName → Size → ℕ → Point → Lock × Isolate → Went
in_lock c m size slots p (Entered object, s) = framed c m size (Some object) slots (in_isolate s p)
in_lock c m size slots p (Waits object, s) = stays c (entering object 0) (in_isolate s p)

unfoldable pub locked_frame : Context → MemberName → ℕ → Size → Passed → Point → Result Went Stop
locked_frame c m flags size x p =
    if has_flag flag.SYNCHRONIZED flags
    then (lock_of c.thread (is_static flags) m.class x.arguments p.isolate >>= λ y. Ok (in_lock c m size x.slots p y))
    else Ok (framed c m size None x.slots p)

-- First there has to be room for the frame; then a synchronized method enters its monitor, and then the frame is made.
unfoldable pub entered_frame : Context → MemberName → ℕ → Size → Passed → Point → Result Went Stop
entered_frame c m flags size x p =
    if has_room c.launch.limits (max size.locals x.slots) size.depth (p.frame ∷ p.callers) then locked_frame c m flags size x p else stopped StackOverflowError

-- ---- the call

abbrev pub native_or_none : Context → MemberName → Head → Passed → ℕ → Point → Option Native → Result Went Stop
native_or_none c m head x next p (Some native) = native_call c native (is_static head.flags) m.class x next p
native_or_none c m head x next p None = stopped (thrown_without_code head.flags)

abbrev pub called_by : Context → MemberName → Head → Passed → ℕ → Point → Option Size → Result Went Stop
called_by c m head x next p (Some size) = entered_frame c m head.flags size x p
called_by c m head x next p None = native_or_none c m head x next p (native_method m.class m.name m.desc)

-- the method is called: one with code gets a frame, a native one is done at once
unfoldable pub called : Context → MemberName → Passed → ℕ → Point → Result Went Stop
called c m x next p = head_in c.look m >>= λ head. called_by c m head x next p head.size

-- ---- invokestatic

unfoldable pub static_called : Context → MemberName → ℕ → Point → Result Went Stop
static_called c m next p = passed_by true m.desc p.frame.body.operands.slots >>= λ x. called c m x next p

-- the class that declares the method is initialised first
unfoldable pub invoke_static : Context → ℕ → ℕ → Point → Result Went Stop
invoke_static c index next p = call_target c.look true index p.frame >>= λ t. once_initialised c t.1.class p (static_called c t.1 next)

-- ---- calls with a receiver

-- the receiver is an instance of the class that declares the resolved method, or that is thrown
abbrev pub on_instance : Look → Thrown → List ℕ → ℕ → Isolate → Result (Unit {0}) Stop
on_instance look thrown class object s = if is_instance look (of_class class) s object then Ok tt else stopped thrown

-- the receiver, which is the first argument
unfoldable pub receiver_of : Look → Thrown → MemberName → Passed → Isolate → Result Received Stop
receiver_of look thrown m x s =
    receiver_in x.arguments >>= λ object. on_instance look thrown m.class object s >>= λ is. Ok (record { passes = x; receiver = object })

-- the arguments of a call, and its receiver
unfoldable pub received_by : Look → Thrown → MemberName → List Slot → Isolate → Result Received Stop
received_by look thrown m operands s = passed_by false m.desc operands >>= λ x. receiver_of look thrown m x s

-- the class in which a method is selected for an object
unfoldable pub receiver_class : Look → ℕ → Isolate → Result Lineage Stop
receiver_class look object s = class_of_type (type_at s object) >>= λ name. looked_up (look.class name)

-- the method that was selected, by its names
abbrev pub selected_in : Lineage → Result Found LinkFault → Result MemberName Stop
selected_in class found = selected_or found >>= λ at. or_verify (method_named (record { class = class; found = at }))

unfoldable pub virtual_selected : Look → MethodAt → ℕ → Isolate → Result MemberName Stop
virtual_selected look target object s = receiver_class look object s >>= λ class. selected_in class (virtual_selection class target)

unfoldable pub interface_selected : Look → MethodAt → ℕ → Isolate → Result MemberName Stop
interface_selected look target object s = receiver_class look object s >>= λ class. selected_in class (interface_selection class target)

unfoldable pub invoke_virtual : Context → ℕ → ℕ → Point → Result Went Stop
invoke_virtual c index next p =
    call_target c.look false index p.frame >>= λ t.
    received_by c.look VerifyError t.1 p.frame.body.operands.slots p.isolate >>= λ x.
    virtual_selected c.look t.0 x.receiver p.isolate >>= λ m. called c m x.passes next p

abbrev pub not_private : Target → Result Target Stop
not_private t = if has_flag flag.PRIVATE t.1.flags then stopped IncompatibleClassChangeError else Ok t

unfoldable pub invoke_interface : Context → ℕ → ℕ → Point → Result Went Stop
invoke_interface c index next p =
    call_target c.look false index p.frame >>= not_private >>= λ t.
    received_by c.look IncompatibleClassChangeError t.1 p.frame.body.operands.slots p.isolate >>= λ x.
    interface_selected c.look t.0 x.receiver p.isolate >>= λ m. called c m x.passes next p

-- ---- Thread.run (Java SE 8 API, java.lang.Thread)

abbrev pub or_no_method : Result Found LinkFault → Result Found Stop
or_no_method (Ok found) = Ok found
or_no_method (Err fault) = stopped NoSuchMethodError

abbrev pub run_resolved : Lineage → Result MethodAt Stop
run_resolved class = or_no_method (method_found (codes "run") (codes "()V") class) >>= λ found. Ok (record { class = class; found = found })

unfoldable pub thread_run : Look → Result MethodAt Stop
thread_run look = looked_up (look.class THREAD) >>= run_resolved

-- it is selected in the class of the thread's object
unfoldable pub run_selected : Look → ℕ → Isolate → Result MemberName Stop
run_selected look object s = thread_run look >>= λ run. virtual_selected look run object s

-- ---- invokespecial

abbrev pub first_or : List ℕ → List (List ℕ) → List ℕ
first_or name [] = name
first_or name (super ∷ supers) = super

abbrev pub or_else : List ℕ → Option (List ℕ) → List ℕ
or_else name (Some super) = super
or_else name None = name

-- the class inherits from another one of that name
abbrev pub has_super : Look → List ℕ → List ℕ → Bool
has_super look name class = is_sub look class name && not (bytes_eq class name)

abbrev pub current_class : Runs → Result (List ℕ) Stop
current_class (method class name desc) = Ok class
current_class _ = stopped VerifyError

-- the direct superclass of a class
unfoldable pub super_of : Look → List ℕ → Result Lineage Stop
super_of look class = looked_up (look.class class) >>= λ current. looked_up (look.class (first_or class (superclass current.file)))

-- Where a selection begins: in the direct superclass of the current class, where the reference names a class and no interface, from which the
-- current class inherits; else in the class in which the method was resolved.
unfoldable pub special_start : Look → List ℕ → Target → List ℕ → Result Lineage Stop
special_start look name t class = if has_super look name class && not (is_interface t.0.class.file.flags) then super_of look class else Ok t.0.class

unfoldable pub started : Look → ℕ → Target → Frame → Result Lineage Stop
started look index t f = referred look index f >>= λ name. current_class f.runs >>= special_start look name t

-- the method that is selected from there
unfoldable pub special_selected : Look → ℕ → Target → Frame → Result MemberName Stop
special_selected look index t f = started look index t f >>= λ start. selected_in start (special_selection start t.0)

-- a constructor is taken as it was resolved
unfoldable pub special_method : Look → ℕ → Target → Frame → Result MemberName Stop
special_method look index t f = if is_constructor t.1 then Ok t.1 else special_selected look index t f

unfoldable pub invoke_special : Context → ℕ → ℕ → Point → Result Went Stop
invoke_special c index next p =
    call_target c.look false index p.frame >>= λ t.
    received_by c.look VerifyError t.1 p.frame.body.operands.slots p.isolate >>= λ x.
    special_method c.look index t p.frame >>= λ m. called c m x.passes next p
