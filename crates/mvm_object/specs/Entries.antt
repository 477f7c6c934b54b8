-- The classes that instructions initialise (JVM Specification 5.5).
use Rattle.std.specs.Prelude.{ℕ, List, ◌∷◌, Bool, Result, Ok, Err}
use Rattle.mvm_base.specs.Answers.{◌>>=◌}
use Rattle.mvm_mirror.specs.declared.state.Begin.{Begin}
use Rattle.mvm_mirror.specs.declared.state.Begin.TheVariants as begin
use Rattle.mvm_native.specs.declared.out.Thrown.TheVariants.{NoClassDefFoundError}
use Rattle.mvm_isolate.specs.Faults.{looked_up}
use Rattle.mvm_isolate.specs.Initialise.{links_and_begins}
use Rattle.mvm_isolate.specs.Isolate.{Isolate, stopped}
use Rattle.mvm_isolate.specs.declared.stop.Stop.{Stop}
use Rattle.mvm_current.specs.Frames.{initialising, bare_frame, has_room, SUPERS}
use Rattle.mvm_object.specs.Going.{Context, Point, Went, does, ready, initing, stays, in_isolate}

-- there is room for the frame of an initialisation
abbrev pub may_begin : Context → Point → Bool
may_begin c p = has_room c.launch.limits 0 0 (p.frame ∷ p.callers)

-- a frame in which the class is initialised stands on the others
abbrev pub with_initialiser : Context → List ℕ → Point → Went
with_initialiser c class p = record {
  isolate = p.isolate;
  frames = bare_frame (initialising class) SUPERS ∷ p.frame ∷ p.callers;
  object = c.object;
  after = does ready;
}

abbrev pub by_begin : Context → List ℕ → Point → (Point → Result Went Stop) → Begin × Isolate → Result Went Stop
by_begin c class p go (begin.Done, s) = go (in_isolate s p)
by_begin c class p go (begin.Wait, s) = Ok (stays c (initing class) (in_isolate s p))
by_begin c class p go (begin.Erroneous, s) = stopped NoClassDefFoundError
by_begin c class p go (begin.Run, s) = Ok (with_initialiser c class (in_isolate s p))

-- the same of a class that was looked up
abbrev pub once_begun : Context → List ℕ → Point → (Point → Result Went Stop) → Result Went Stop
once_begun c class p go = links_and_begins c.look (may_begin c p) c.thread class p.isolate >>= by_begin c class p go

-- The attempt goes on where the class is initialised, or this thread initialises it. Else the thread waits for another one, or begins; the
-- instruction is attempted again later. The class was loaded when its entry was resolved; it is looked up before all else, so that every rule
-- says something.
unfoldable pub once_initialised : Context → List ℕ → Point → (Point → Result Went Stop) → Result Went Stop
once_initialised c class p go = looked_up (c.look.class class) >>= λ found. once_begun c class p go
