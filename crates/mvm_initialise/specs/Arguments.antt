-- What main is called with (JVM Specification 5.2): its arguments, and the monitor of its class object where it is synchronized.
use Rattle.std.specs.Prelude.{◌≡◌, ◌<◌, ℕ, ◌+◌, List, [], ◌∷◌, length, Bool, true, false, Option, Some, None, Result, Ok}
use Rattle.mvm_base.specs.Answers.{◌>>=◌}
use Rattle.mvm_base.specs.declared.descriptor.Base.TheVariants.{Object}
use Rattle.mvm_base.specs.declared.descriptor.FieldShape.{FieldShape}
use Rattle.mvm_base.specs.declared.value.Word.TheVariants.{Ref}
use Rattle.mvm_heap.specs.Heap.{object_at, text, words_of}
use Rattle.mvm_heap.specs.Sorts.{bits_of, words_needed}
use Rattle.mvm_heap.specs.declared.kind.ItemKind.TheVariants as item
use Rattle.mvm_heap.specs.declared.kind.ObjectKind.TheVariants.{Array}
use Rattle.mvm_native.specs.declared.out.Thrown.TheVariants.{StackOverflowError}
use Rattle.mvm_region.specs.declared.monitor.Monitor.{Monitor}
use Rattle.mvm_isolate.specs.Isolate.{Isolate, stopped, class_object, new_array, new_text, with_number}
use Rattle.mvm_isolate.specs.Monitors.{with_monitor}
use Rattle.mvm_isolate.specs.Types.{of_class, STRING}
use Rattle.mvm_isolate.specs.declared.stop.Stop.{Stop}
use Rattle.mvm_initialise.specs.Locks.{monitor_entered}
use Rattle.mvm_initialise.specs.declared.arguments.MainCall.{MainCall}
use Rattle.mvm_initialise.specs.declared.arguments.MainLock.{MainLock}
use Rattle.mvm_initialise.specs.declared.arguments.MainLock.TheVariants.{Entered, Waits}

-- ---- the arguments

-- texts as the items of an array from a place on, each made anew
abbrev pub texts_made : ℕ → ℕ → List (List ℕ) → Isolate → Result Isolate Stop
texts_made array place [] s = Ok s
texts_made array place (units ∷ others) s = new_text units s >>= λ x. texts_made array (place + 1) others (with_number array place (bits_of (Ref x.0)) x.1)

abbrev pub STRINGS : FieldShape
STRINGS = record { dims = 1; base = Object STRING }

-- the array of arguments, and then its texts
unfoldable pub arguments_made : List (List ℕ) → Isolate → Result (ℕ × Isolate) Stop
arguments_made texts s = new_array STRINGS (length texts) s >>= λ x. texts_made x.0 0 texts x.1 >>= λ made. Ok (x.0, made)

abbrev pub if_fits : Bool → ℕ × Isolate → Result (ℕ × Isolate) Stop
if_fits true x = Ok x
if_fits false x = stopped StackOverflowError

-- the arguments of the launch, and then one frame more has to fit
unfoldable pub main_arguments : List (List ℕ) → Bool → Isolate → Result (ℕ × Isolate) Stop
main_arguments args room s = arguments_made args s >>= if_fits room

-- ---- a synchronized main

abbrev pub called_with : ℕ → ℕ × Isolate → MainLock × Isolate
called_with object x = (Entered (record { lock = object; arguments = x.0 }), x.1)

abbrev pub main_in : List (List ℕ) → Bool → ℕ → Isolate → Option Monitor → Result (MainLock × Isolate) Stop
main_in args room object s None = Ok (Waits object, s)
main_in args room object s (Some monitor) = main_arguments args room (with_monitor object monitor s) >>= λ x. Ok (called_with object x)

-- the same by the class object
unfoldable pub main_known : List (List ℕ) → Bool → ℕ → ℕ → Isolate → Result (MainLock × Isolate) Stop
main_known args room thread object s = monitor_entered thread object s >>= main_in args room object s

-- The class object, made where it was never wanted before, and then its monitor. Where another thread owns that, no argument is made; else
-- the monitor is entered, the arguments are made, and one frame more has to fit.
unfoldable pub main_locked : List (List ℕ) → Bool → ℕ → List ℕ → Isolate → Result (MainLock × Isolate) Stop
main_locked args room thread name s = class_object (of_class name) s >>= λ x. main_known args room thread x.0 x.1

-- ---- what they take

abbrev pub texts_words : List (List ℕ) → ℕ
texts_words [] = 0
texts_words (units ∷ others) = words_of (text units) + texts_words others

-- how many words an array of these texts takes, with the texts
abbrev pub arguments_words : List (List ℕ) → ℕ
arguments_words texts = words_needed (Array item.Ref) (length texts) + texts_words texts

-- ---- the array while its items are made

-- one text, made anew, as an item
abbrev pub text_put : ℕ → ℕ → List ℕ → Isolate → Result Isolate Stop
text_put array place units s = new_text units s >>= λ x. Ok (with_number array place (bits_of (Ref x.0)) x.1)

-- an array of so many references
pub record IsArrayOf (count : ℕ) (s : Isolate) (array : ℕ) : Type 0 where
  pub there : array < length s.heap.objects
  pub size : length (object_at s.heap.objects array).contents ≡ count
  pub sort : (object_at s.heap.objects array).sort ≡ Array item.Ref

-- an array of references that has this place
pub record IsPlace (s : Isolate) (array place : ℕ) : Type 0 where
  pub there : array < length s.heap.objects
  pub within : place < length (object_at s.heap.objects array).contents
  pub sort : (object_at s.heap.objects array).sort ≡ Array item.Ref

-- the objects that a call of main answers are there
abbrev pub AreThere : Isolate → MainLock → Type 0
AreThere s (Entered call) = (call.lock < length s.heap.objects) × (call.arguments < length s.heap.objects)
AreThere s (Waits object) = object < length s.heap.objects
