-- How a thread starts (JVM Specification 5.2; Java SE 8 API, java.lang.Thread).
use Rattle.std.specs.Prelude.{ℕ, ◌-◌, List, [], ◌∷◌, replicate, max, Bool, ◌&&◌, ◌==◌, if◌then◌else◌, Option, Some, None, Result, Ok, Err, codes}
use Rattle.mvm_base.specs.Answers.{◌>>=◌}
use Rattle.mvm_frame.specs.declared.slot.Slot.TheVariants as slot
use Rattle.mvm_layout.specs.Flags.{has_flag, is_static}
use Rattle.mvm_layout.specs.declared.flags.TheConstants as flag
use Rattle.mvm_layout.specs.declared.parts.Code.{Code}
use Rattle.mvm_layout.specs.declared.parts.Member.{Member}
use Rattle.mvm_native.specs.declared.out.Thrown.TheVariants.{NoSuchMethodError, StackOverflowError}
use Rattle.mvm_select.specs.Told.{method_found}
use Rattle.mvm_set.specs.declared.class.Lineage.{Lineage}
use Rattle.mvm_set.specs.declared.fault.LinkFault.{LinkFault}
use Rattle.mvm_set.specs.declared.found.Found.{Found}
use Rattle.mvm_set.specs.declared.found.MethodAt.{MethodAt}
use Rattle.mvm_isolate.specs.Faults.{looked_up}
use Rattle.mvm_isolate.specs.Isolate.{Isolate, stopped}
use Rattle.mvm_isolate.specs.Look.{Look}
use Rattle.mvm_isolate.specs.Members.{or_verify, method_in}
use Rattle.mvm_member.specs.Members.{MemberName, method_named}
use Rattle.mvm_isolate.specs.declared.stop.Stop.{Stop}
use Rattle.mvm_invoke.specs.Calls.{or_no_method, run_selected, without_code}
use Rattle.mvm_object.specs.Entries.{once_initialised}
use Rattle.mvm_current.specs.Frames.{method, Frame, has_room}
use Rattle.mvm_initialise.specs.Arguments.{main_arguments, main_locked}
use Rattle.mvm_initialise.specs.declared.arguments.MainLock.{MainLock}
use Rattle.mvm_initialise.specs.declared.arguments.MainLock.TheVariants.{Entered, Waits}
use Rattle.mvm_object.specs.Going.{Context, Point, Went, does, ready, entering, stays, in_isolate}
use Rattle.mvm_locking.specs.Monitors.{once_entered}
use Rattle.mvm_starting.specs.declared.firsts.Head.{Head}

-- ---- the first method of a thread

abbrev pub head_by : Member → Option Code → Result Head Stop
head_by m (Some code) = Ok (record { flags = m.flags; locals = code.max_locals; depth = code.max_stack })
head_by m None = stopped (without_code m)

-- of the method of this name and descriptor its flags, and how many local variables and operands its code has
unfoldable pub head_in : Look → MemberName → Result Head Stop
head_in look m = method_in look m.class m.name m.desc >>= λ found. head_by found found.code

abbrev pub is_synchronized : Head → Bool
is_synchronized head = has_flag flag.SYNCHRONIZED head.flags

-- ---- the frame that takes the place of a start

-- the frame of a method, whose one argument is this object
abbrev pub first_frame : MemberName → Option ℕ → Head → ℕ → Frame
first_frame m lock head object = record {
  runs = method m.class m.name m.desc;
  lock = lock;
  body = record { pc = 0; locals = slot.Ref object ∷ replicate (head.locals - 1) slot.Unset; operands = record { depth = head.depth; slots = [] } };
}

-- it fits, where the frame of the start is left
abbrev pub first_room : Context → Head → Point → Bool
first_room c head p = has_room c.launch.limits (max head.locals 1) head.depth p.callers

abbrev pub started : Context → MemberName → Option ℕ → Head → ℕ → Point → Went
started c m lock head object p = record { isolate = p.isolate; frames = first_frame m lock head object ∷ p.callers; object = c.object; after = does ready }

-- ---- main (5.2)

abbrev pub of_main : MemberName → Result MemberName Stop
of_main m = if has_flag flag.PUBLIC m.flags && is_static m.flags then Ok m else stopped NoSuchMethodError

-- a method that was found, by its names
abbrev pub main_found : MethodAt → Result MemberName Stop
main_found m = or_verify (method_named m) >>= of_main

-- the public static method main of a class, by the rule of resolution (5.4.3.3) without access
unfoldable pub main_of : Lineage → Result MemberName Stop
main_of class =
    or_no_method (method_found (codes "main") (codes "([Ljava/lang/String;)V") class) >>= λ found.
    main_found (record { class = class; found = found })

-- the main of the class of a name
abbrev pub main_in : Look → List ℕ → Result MemberName Stop
main_in look name = looked_up (look.class name) >>= main_of

abbrev pub with_arguments : Context → MemberName → Head → Point → ℕ × Isolate → Result Went Stop
with_arguments c m head p x = Ok (started c m None head x.0 (in_isolate x.1 p))

-- the arguments are made, and then the frame has to fit
unfoldable pub main_unlocked : Context → MemberName → Head → Point → Result Went Stop
main_unlocked c m head p = main_arguments c.launch.args (first_room c head p) p.isolate >>= with_arguments c m head p

abbrev pub by_lock : Context → MemberName → Head → Point → MainLock × Isolate → Result Went Stop
by_lock c m head p (Entered call, s) = Ok (started c m (Some call.lock) head call.arguments (in_isolate s p))
by_lock c m head p (Waits object, s) = Ok (stays c (entering object 0) (in_isolate s p))

-- a synchronized main enters the monitor of its class object before the arguments are made
unfoldable pub main_synchronized : Context → MemberName → Head → Point → Result Went Stop
main_synchronized c m head p = main_locked c.launch.args (first_room c head p) c.thread m.class p.isolate >>= by_lock c m head p

abbrev pub main_entered : Context → MemberName → Point → Head → Result Went Stop
main_entered c m p head = if is_synchronized head then main_synchronized c m head p else main_unlocked c m head p

-- this method is called as main; without code nothing is made
unfoldable pub main_started : Context → Point → MemberName → Result Went Stop
main_started c p m = head_in c.look m >>= main_entered c m p

unfoldable pub main_called : Context → Point → Result Went Stop
main_called c p = looked_up (c.look.class c.launch.main) >>= main_of >>= main_started c p

-- the first thread starts: the main class is initialised, and then its main is called
unfoldable pub start_main : Context → Point → Result Went Stop
start_main c p = once_initialised c c.launch.main p (main_called c)

-- ---- run (Java SE 8 API, java.lang.Thread)

-- a synchronized run enters the monitor of the thread's object
unfoldable pub run_locked : Context → MemberName → Head → ℕ → Point → Result Went Stop
run_locked c m head object p =
    if is_synchronized head
    then once_entered c object p (λ s. Ok (started c m (Some object) head object (in_isolate s p)))
    else Ok (started c m None head object p)

-- first the frame has to fit, as that of a call
abbrev pub run_entered : Context → MemberName → ℕ → Point → Head → Result Went Stop
run_entered c m object p head = if first_room c head p then run_locked c m head object p else stopped StackOverflowError

unfoldable pub run_started : Context → ℕ → Point → MemberName → Result Went Stop
run_started c object p m = head_in c.look m >>= run_entered c m object p

-- Thread.run, selected in the class of the thread's object, is called
unfoldable pub run_called : Context → Point → ℕ → Result Went Stop
run_called c p object = run_selected c.look object p.isolate >>= run_started c object p

-- another thread starts: the run of its object is called
unfoldable pub start_run : Context → Point → Result Went Stop
start_run c p = or_verify c.object >>= run_called c p

unfoldable pub start : Context → Point → Result Went Stop
start c p = if c.thread == 0 then start_main c p else start_run c p
