-- Whether a throw finds its words, known before anything is done (JVM Specification 2.10, 5.5).
use Rattle.std.specs.Prelude.{ℕ, ◌-◌, List, [], ◌∷◌, Bool, true, false, not, ◌&&◌, ◌==◌, nat_le, if◌then◌else◌, Option, Some, None, Result}
use Rattle.mvm_base.specs.Answers.{◌>>=◌}
use Rattle.mvm_heap.specs.Heap.{words_of, zeros}
use Rattle.mvm_heap.specs.declared.kind.ObjectKind.TheVariants as sort
use Rattle.mvm_native.specs.declared.out.Thrown.{Thrown}
use Rattle.mvm_native.specs.declared.out.Thrown.TheVariants.{ExceptionInInitializerError}
use Rattle.mvm_isolate.specs.Isolate.{Isolate, new_object}
use Rattle.mvm_isolate.specs.Look.{Look}
use Rattle.mvm_isolate.specs.Thrown.{name_of_thrown}
use Rattle.mvm_isolate.specs.Types.{ReferenceType, of_class}
use Rattle.mvm_isolate.specs.declared.stop.Stop.{Stop}
use Rattle.mvm_current.specs.Frames.{Runs, method, starting, initialising, Frame, LAST}
use Rattle.mvm_throwing.specs.Throwing.{Unwound, is_error, handler_for, unwound}

-- the words of a throwable
abbrev pub THROWABLE : ℕ
THROWABLE = words_of (zeros sort.Object 0 2)

-- a new throwable is thrown
abbrev pub throwing_new : Look → ℕ → Thrown → Isolate → List Frame → Result Unwound Stop
throwing_new look thread thrown s fs = new_object (name_of_thrown thrown) 2 s >>= unwound look thread fs

-- a throw of an object of this type through a frame makes an ExceptionInInitializerError
abbrev pub wraps : Look → Runs → ℕ → Option ReferenceType → Bool
wraps look (initialising class) stage type = stage == LAST && not (is_error look type)
wraps look _ stage type = false

abbrev pub caught_or_goes : Option ℕ → Bool → Bool
caught_or_goes (Some handler) others = true
caught_or_goes None others = others

-- a throw of an object of this type through these frames finds the words that it needs among so many
unfoldable pub unwinds : Look → ℕ → List Frame → Option ReferenceType → Bool
unwinds look left [] type = true
unwinds look left (f ∷ fs) type =
    caught_or_goes (handler_for look f.runs f.body.pc type)
    (if wraps look f.runs f.body.pc type
    then (if nat_le THROWABLE left then unwinds look (left - THROWABLE) fs (Some (of_class (name_of_thrown ExceptionInInitializerError))) else false)
    else unwinds look left fs type)
