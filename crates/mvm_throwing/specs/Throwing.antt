-- Throwing (JVM Specification 2.10, 6.5 under athrow): the frames are left from the top one until one has a handler.
use Rattle.std.specs.Prelude.{ℕ, List, [], ◌∷◌, Bool, true, false, not, ◌&&◌, ◌==◌, nat_le, nat_lt, if◌then◌else◌, Option, Some, None, Result, Ok, Err, codes}
use Rattle.mvm_base.specs.Answers.{◌>>=◌}
use Rattle.mvm_base.specs.declared.value.Word.TheVariants.{Ref}
use Rattle.mvm_frame.specs.declared.slot.Slot.{Slot}
use Rattle.mvm_frame.specs.declared.slot.Slot.TheVariants as slot
use Rattle.mvm_heap.specs.Sorts.{bits_of}
use Rattle.mvm_layout.specs.Pool.{class_name}
use Rattle.mvm_layout.specs.declared.parts.Item.{Item}
use Rattle.mvm_layout.specs.declared.parts.Code.{Code}
use Rattle.mvm_layout.specs.declared.parts.Row.{Row}
use Rattle.mvm_native.specs.declared.out.Thrown.{Thrown}
use Rattle.mvm_native.specs.declared.out.Thrown.TheVariants.{OutOfMemoryError, StackOverflowError, ExceptionInInitializerError}
use Rattle.mvm_isolate.specs.Faults.{looked_up}
use Rattle.mvm_isolate.specs.Initialise.{failed}
use Rattle.mvm_isolate.specs.Isolate.{Isolate, type_at, new_object, with_number}
use Rattle.mvm_isolate.specs.Look.{Look, extends}
use Rattle.mvm_isolate.specs.Members.{method_in}
use Rattle.mvm_isolate.specs.Receivers.{is_thrown_as}
use Rattle.mvm_isolate.specs.Types.{ReferenceType}
use Rattle.mvm_isolate.specs.declared.stop.Stop.{Stop}
use Rattle.mvm_isolate.specs.declared.stop.Stop.TheVariants as stop
use Rattle.mvm_local.specs.Body.{Body}
use Rattle.mvm_current.specs.Frames.{Runs, method, starting, initialising, Frame, LAST}
use Rattle.mvm_locking.specs.Monitors.{released}
use Rattle.mvm_isolate.specs.Thrown.{name_of_thrown}

-- ---- the object that is thrown

-- Want of words and want of frames have objects that were made at the start of the isolate, objects 0 and 1.
unfoldable pub set_aside : Thrown → Option ℕ
set_aside OutOfMemoryError = Some 0
set_aside StackOverflowError = Some 1
set_aside _ = None

-- another throwable is a new object with its two fields, without message and without cause
abbrev pub aside_or_new : Option ℕ → Thrown → Isolate → Result (ℕ × Isolate) Stop
aside_or_new (Some object) thrown s = Ok (object, s)
aside_or_new None thrown s = new_object (name_of_thrown thrown) 2 s

unfoldable pub thrown_object : Stop → Isolate → Result (ℕ × Isolate) Stop
thrown_object (stop.Object object) s = Ok (object, s)
thrown_object (stop.Throw thrown) s = aside_or_new (set_aside thrown) thrown s
-- no definition gives this one; it stands here so that the rule is total
thrown_object stop.OutOfMemory s = Err stop.OutOfMemory

-- ---- handlers

-- a row without a class catches everything (4.7.3)
abbrev pub catches_named : Look → Option ReferenceType → Option (List ℕ) → Bool
catches_named look type (Some name) = is_thrown_as look name type
catches_named look type None = false

abbrev pub catches : Look → List Item → Option ReferenceType → Row → Bool
catches look pool type row = if row.catch_class == 0 then true else catches_named look type (class_name pool row.catch_class)

-- the row covers the pc; its end does not belong to it
abbrev pub covers : ℕ → Row → Bool
covers pc row = nat_le row.start pc && nat_lt pc row.end

-- the handler of the first row that covers the pc and catches the object
abbrev pub handler_in : Look → List Item → Option ReferenceType → ℕ → List Row → Option ℕ
handler_in look pool type pc [] = None
handler_in look pool type pc (row ∷ rows) = if covers pc row && catches look pool type row then Some row.handler else handler_in look pool type pc rows

abbrev pub handler_of_code : Look → List Item → Option ReferenceType → ℕ → Option Code → Option ℕ
handler_of_code look pool type pc (Some code) = handler_in look pool type pc code.rows
handler_of_code look pool type pc None = None

abbrev pub or_no_handler : Result (Option ℕ) Stop → Option ℕ
or_no_handler (Ok handler) = handler
or_no_handler (Err stop) = None

-- where a method goes on with an object of this type that is thrown at its pc, if it has a handler for it
unfoldable pub handler_of : Look → List ℕ → List ℕ → List ℕ → ℕ → Option ReferenceType → Option ℕ
handler_of look class name desc pc type =
    or_no_handler (looked_up (look.class class) >>= λ found. method_in look class name desc >>= λ m. Ok (handler_of_code look found.file.pool type pc m.code))

-- ---- leaving the frames

-- the object that is thrown, and the isolate so far
abbrev pub Passing : Type 0
Passing = ℕ × Isolate

abbrev pub is_error : Look → Option ReferenceType → Bool
is_error look type = is_thrown_as look (codes "java/lang/Error") type

-- a new ExceptionInInitializerError, with the object as its cause
abbrev pub wrapped : Passing → Result Passing Stop
wrapped x = new_object (name_of_thrown ExceptionInInitializerError) 2 x.1 >>= λ y. Ok (y.0, with_number y.0 1 (bits_of (Ref x.0)) y.1)

-- in the stage of `<clinit>`, what is no Error goes on as the cause of one (5.5, step 11)
abbrev pub through_initialiser : Look → ℕ → Passing → Result Passing Stop
through_initialiser look stage x = if stage == LAST && not (is_error look (type_at x.1 x.0)) then wrapped x else Ok x

abbrev pub class_failed : List ℕ → Passing → Result Passing Stop
class_failed class x = Ok (x.0, failed class x.1)

abbrev pub through_frame : Look → Runs → ℕ → Passing → Result Passing Stop
through_frame look (initialising class) stage x = through_initialiser look stage x >>= class_failed class
through_frame look _ stage x = Ok x

-- what is left where a frame is left by a throw: its monitor is left, and the initialisation of its class has failed
unfoldable pub frame_left : Look → ℕ → Frame → Passing → Result Passing Stop
frame_left look thread f x = through_frame look f.runs f.body.pc (x.0, released thread f.lock x.1)

abbrev pub handler_for : Look → Runs → ℕ → Option ReferenceType → Option ℕ
handler_for look (method class name desc) pc type = handler_of look class name desc pc type
handler_for look _ pc type = None

-- the object alone on so many operands; code that was linked has room for it, and in other code it is not there
abbrev pub alone : ℕ → ℕ → List Slot
alone depth object = if nat_lt 0 depth then slot.Ref object ∷ [] else []

-- the frame goes on at its handler, with the object alone on its operands
abbrev pub caught : ℕ → ℕ → Frame → Frame
caught handler object f = record f { body = record f.body { pc = handler; operands = record f.body.operands { slots = alone f.body.operands.depth object } } }

-- what a throw leaves: the isolate, the object, and the frames from the one that catches it on, none where none does
pub record Unwound : Type 0 where
  pub isolate : Isolate
  pub object : ℕ
  pub frames : List Frame

abbrev pub caught_or : Option ℕ → Frame → List Frame → Passing → Result Unwound Stop → Result Unwound Stop
caught_or (Some handler) f fs x others = Ok (record { isolate = x.1; object = x.0; frames = caught handler x.0 f ∷ fs })
caught_or None f fs x others = others

unfoldable pub unwound : Look → ℕ → List Frame → Passing → Result Unwound Stop
unwound look thread [] x = Ok (record { isolate = x.1; object = x.0; frames = [] })
unwound look thread (f ∷ fs) x =
    caught_or (handler_for look f.runs f.body.pc (type_at x.1 x.0)) f fs x (frame_left look thread f x >>= unwound look thread fs)

-- ---- the whole

-- an object is thrown in a thread with these frames
unfoldable pub throwing : Look → ℕ → Stop → Isolate → List Frame → Result Unwound Stop
throwing look thread why s fs = thrown_object why s >>= unwound look thread fs

abbrev pub or_words_missing : Result Unwound Stop → Result Unwound Stop → Result Unwound Stop
or_words_missing (Ok x) other = Ok x
or_words_missing (Err missing) other = other

-- the thread ends by object 0
abbrev pub abandoned : Isolate → Unwound
abandoned s = record { isolate = s; object = 0; frames = [] }

-- Where words are missing for the throwable, or for one that replaces it on its way, object 0 is thrown instead, from the state before. It is an
-- Error, so that throwing it takes no words; so the last case, in which words are missing for what replaces it, never comes.
unfoldable pub throw : Look → ℕ → Stop → Isolate → List Frame → Result Unwound Stop
throw look thread why s fs =
    or_words_missing (throwing look thread why s fs) (or_words_missing (throwing look thread (stop.Throw OutOfMemoryError) s fs) (Ok (abandoned s)))
