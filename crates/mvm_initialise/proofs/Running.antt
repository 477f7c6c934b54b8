-- What a thread comes to that wants a class initialised.
use Rattle.std.proofs.Common.{◌≡◌, ◌≢◌, ◌<◌, ℕ, Bool, true, false, List, length, Option, Some, None, Result, Ok, Err, IsOk, is_ok, refl, sym, ap, ◌∙◌, subst, arith, All, cond}
use Rattle.std.specs.Prelude.{◌==◌}
use Rattle.mvm_base.specs.Answers.{◌>>=◌, AnswersUnless, Fails, GivesUnless}
use Rattle.mvm_heap.specs.Objects.{State}
use Rattle.mvm_mirror.specs.States.{begun}
use Rattle.mvm_mirror.specs.declared.state.Begin.{Begin}
use Rattle.mvm_mirror.specs.declared.state.Begin.TheVariants as begin
use Rattle.mvm_mirror.specs.declared.state.InitState.{InitState}
use Rattle.mvm_mirror.specs.declared.state.InitState.TheVariants.{NotBegun, InProgress, Initialised, Erroneous}
use Rattle.mvm_native.specs.declared.out.Thrown.TheVariants.{StackOverflowError}
use Rattle.mvm_set.specs.declared.class.Lineage.{Lineage}
use Rattle.mvm_isolate.specs.Faults.{looked_up}
use Rattle.mvm_isolate.specs.Initialise.{begins, begun_by, if_room, in_state, links_and_begins, constants_set, linked_first, run}
use Rattle.mvm_isolate.specs.Isolate.{Isolate, stopped}
use Rattle.mvm_isolate.specs.Look.{Look}
use Rattle.mvm_isolate.specs.declared.stop.Stop.{Stop}
use Rattle.mvm_initialise.specs.Constants.{IsThrownAt, MayBeSet}

module _ (look : Look) (thread : ℕ) (name : List ℕ) (class : Lineage) (s : Isolate) where
  -- nobody began, and the constants are set as they can be
  begins_is : (room : Bool) → looked_up (look.class name) ≡ Ok class → s.classes.states name ≡ NotBegun
      → begins look room thread name s ≡ (constants_set name class.file class.file.fields (in_state name (InProgress thread) s) >>= if_room room)
  unfolding begins run
  begins_is room l b = rw (l, b) refl

  pub begins_run : (t : Isolate) → looked_up (look.class name) ≡ Ok class → s.classes.states name ≡ NotBegun
      → constants_set name class.file class.file.fields (in_state name (InProgress thread) s) ≡ Ok t → begins look true thread name s ≡ Ok (begin.Run, t)
  begins_run t l b e = begins_is true l b ∙ ap (λ (r : Result Isolate Stop). r >>= if_room true) e

  pub begins_thrown : (room : Bool) (fault : Stop) → looked_up (look.class name) ≡ Ok class → s.classes.states name ≡ NotBegun
      → IsThrownAt class.file s.heap fault → begins look room thread name s ≡ Err fault
  begins_thrown room fault l b e = begins_is room l b ∙ ap (λ (r : Result Isolate Stop). r >>= if_room room) (e name (in_state name (InProgress thread) s) refl)

  full_by : (r : Result Isolate Stop) → IsOk r → (r >>= if_room false) ≡ stopped StackOverflowError
  full_by (Ok t) ok = refl
  full_by (Err fault) ok = absurd cc

  pub begins_full : looked_up (look.class name) ≡ Ok class → s.classes.states name ≡ NotBegun → MayBeSet class.file s.heap → begins look false thread name s ≡ stopped StackOverflowError
  begins_full l b fits = begins_is false l b ∙ full_by _ (fits name (in_state name (InProgress thread) s) refl)

  -- another one began, or it was initialised, or that failed
  pub begins_other : (room : Bool) (answer : Begin) → looked_up (look.class name) ≡ Ok class → begun thread (s.classes.states name) ≡ answer → answer ≢ begin.Run
      → begins look room thread name s ≡ Ok (answer, s)
  unfolding begins
  begins_other room begin.Run l e other = absurd (other refl)
  begins_other room begin.Done l e other = rw (l, e) refl
  begins_other room begin.Wait l e other = rw (l, e) refl
  begins_other room begin.Erroneous l e other = rw (l, e) refl

-- only a class that nobody began is begun
other_runs : (b : Bool) → cond b begin.Done begin.Wait ≡ begin.Run → ⊥
other_runs true e = cc
other_runs false e = cc

pub runs_first : (thread : ℕ) (state : InitState) → begun thread state ≡ begin.Run → state ≡ NotBegun
runs_first thread NotBegun e = refl
runs_first thread (InProgress other) e = absurd (other_runs (other == thread) e)
runs_first thread Initialised e = absurd cc
runs_first thread Erroneous e = absurd cc

module _ (look : Look) (room : Bool) (thread : ℕ) (name : List ℕ) (s : Isolate) where
  pub links_ok : linked_first look name (begun thread (s.classes.states name)) ≡ Ok tt → links_and_begins look room thread name s ≡ begins look room thread name s
  unfolding links_and_begins
  links_ok l = rw l refl

  pub links_thrown : (fault : Stop) → linked_first look name (begun thread (s.classes.states name)) ≡ Err fault → links_and_begins look room thread name s ≡ Err fault
  unfolding links_and_begins
  links_thrown fault l = rw l refl
