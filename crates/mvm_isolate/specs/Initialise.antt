-- The initialisation of a class, up to its frame (JVM Specification 5.5).
use Rattle.std.specs.Prelude.{ℕ, List, [], ◌∷◌, ◌++◌, Bool, true, false, if◌then◌else◌, Option, Some, None, Result, Ok, Err}
use Rattle.std.specs.List.{filter, list_any}
use Rattle.mvm_base.specs.Answers.{◌>>=◌}
use Rattle.mvm_base.specs.declared.value.Word.{Word}
use Rattle.mvm_base.specs.declared.value.Word.TheVariants as word
use Rattle.mvm_layout.specs.Flags.{is_static, has_flag}
use Rattle.mvm_layout.specs.Pool.{entry, text}
use Rattle.mvm_layout.specs.declared.flags.TheConstants as flag
use Rattle.mvm_layout.specs.declared.parts.Item.{Item}
use Rattle.mvm_layout.specs.declared.parts.Item.TheVariants as item
use Rattle.mvm_layout.specs.declared.parts.Member.{Member}
use Rattle.mvm_layout.specs.declared.parts.Parts.{Parts}
use Rattle.mvm_mirror.specs.Seen.{Seen, with_state, with_static}
use Rattle.mvm_mirror.specs.States.{begun}
use Rattle.mvm_mirror.specs.declared.state.Begin.{Begin}
use Rattle.mvm_mirror.specs.declared.state.Begin.TheVariants as begin
use Rattle.mvm_mirror.specs.declared.state.InitState.{InitState}
use Rattle.mvm_mirror.specs.declared.state.InitState.TheVariants.{InProgress, Initialised, Erroneous}
use Rattle.mvm_native.specs.declared.out.Thrown.TheVariants.{StackOverflowError}
use Rattle.mvm_isolate.specs.declared.stop.Stop.{Stop}
use Rattle.mvm_isolate.specs.Faults.{looked_up}
use Rattle.mvm_isolate.specs.Isolate.{Isolate, stopped, interned_text}
use Rattle.mvm_isolate.specs.Look.{Look}
use Rattle.mvm_isolate.specs.Values.{narrowed}

-- ---- states

abbrev pub in_state : List ℕ → InitState → Isolate → Isolate
in_state name state s = record s { classes = with_state name state s.classes }

-- the class of a name is initialised (step 10)
unfoldable pub finished : List ℕ → Isolate → Isolate
finished name s = in_state name Initialised s

-- its initialisation failed (steps 7 and 12)
unfoldable pub failed : List ℕ → Isolate → Isolate
failed name s = in_state name Erroneous s

-- ---- the static fields with a ConstantValue attribute, in the order of the file (step 6; 4.7.2)

abbrev pub as_reference : Result (ℕ × Isolate) Stop → Result (Word × Isolate) Stop
as_reference (Ok x) = Ok (word.Ref x.0, x.1)
as_reference (Err stop) = Err stop

abbrev pub text_constant : Option (List ℕ) → Isolate → Result (Word × Isolate) Stop
text_constant (Some units) s = as_reference (interned_text units s)
text_constant None s = Ok (word.Null, s)

abbrev pub constant : List Item → Option Item → Isolate → Result (Word × Isolate) Stop
constant pool (Some (item.Integer n)) s = Ok (word.Int n, s)
constant pool (Some (item.Long n)) s = Ok (word.Long n, s)
constant pool (Some (item.Str units)) s = text_constant (text pool units) s
constant pool _ s = Ok (word.Null, s)

-- the static field of this name and descriptor of a class has this value
unfoldable pub static_set : List ℕ → List ℕ → List ℕ → Word → Isolate → Isolate
static_set class name desc value s = record s { classes = with_static class name desc (narrowed desc value) s.classes }

abbrev pub constant_set : List ℕ → Option (List ℕ) → Option (List ℕ) → Word × Isolate → Isolate
constant_set class (Some name) (Some desc) x = static_set class name desc x.0 x.1
constant_set class _ _ x = x.1

abbrev pub constant_given : List ℕ → Parts → Member → Option ℕ → Isolate → Result Isolate Stop
constant_given class file field (Some index) s =
    constant file.pool (entry file.pool index) s >>= λ x. Ok (constant_set class (text file.pool field.name) (text file.pool field.desc) x)
constant_given class file field None s = Ok s

-- each static field of these that has a constant has its value
unfoldable pub constants_set : List ℕ → Parts → List Member → Isolate → Result Isolate Stop
constants_set class file [] s = Ok s
constants_set class file (field ∷ fields) s =
    (if is_static field.flags then constant_given class file field field.constant s else Ok s) >>= constants_set class file fields

-- ---- who initialises it

-- the thread begins: nobody else may any more, and the constants have their values
unfoldable pub run : ℕ → List ℕ → Parts → Isolate → Result Isolate Stop
run thread name file s = constants_set name file file.fields (in_state name (InProgress thread) s)

-- the frame of the initialisation comes after the constants: where their words are missing, that is thrown
abbrev pub if_room : Bool → Isolate → Result (Begin × Isolate) Stop
if_room true s = Ok (begin.Run, s)
if_room false s = stopped StackOverflowError

abbrev pub begun_by : Bool → ℕ → List ℕ → Parts → Isolate → Begin → Result (Begin × Isolate) Stop
begun_by room thread name file s begin.Run = run thread name file s >>= if_room room
begun_by room thread name file s other = Ok (other, s)

-- What a thread does that wants the class of a name initialised: it goes on, waits, throws, or begins to initialise it (steps 1 to 6). To begin it
-- needs room for one frame more.
unfoldable pub begins : Look → Bool → ℕ → List ℕ → Isolate → Result (Begin × Isolate) Stop
begins look room thread name s = looked_up (look.class name) >>= λ class. begun_by room thread name class.file s (begun thread (s.classes.states name))

-- a class of which the initialisation was begun was linked before; another is linked first, and a fault leaves its state as it is
abbrev pub linked_first : Look → List ℕ → Begin → Result (Unit {0}) Stop
linked_first look name begin.Run = looked_up (look.linked name)
linked_first look name _ = Ok tt

-- the same where the class may not have been linked: where an instruction or a start wants it initialised
unfoldable pub links_and_begins : Look → Bool → ℕ → List ℕ → Isolate → Result (Begin × Isolate) Stop
links_and_begins look room thread name s = linked_first look name (begun thread (s.classes.states name)) >>= λ linked. begins look room thread name s
