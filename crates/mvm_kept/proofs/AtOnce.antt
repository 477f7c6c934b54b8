-- Where a class is initialised an instruction goes on at once.
use Rattle.std.proofs.Common.{◌≡◌, ◌∙◌, ℕ, List, Option, Result, Ok, Err, refl, sym, ap, subst}
use Rattle.mvm_base.specs.Answers.{◌>>=◌}
use Rattle.mvm_frame.specs.Parts.{StackParts}
use Rattle.mvm_mirror.specs.States.{begun}
use Rattle.mvm_mirror.specs.declared.state.Begin.TheVariants as begin
use Rattle.mvm_set.specs.declared.class.Lineage.{Lineage}
use Rattle.mvm_isolate.specs.Faults.{looked_up}
use Rattle.mvm_isolate.specs.Initialise.{begins, links_and_begins}
use Rattle.mvm_isolate.specs.Numbered.{Numbered, look_of, name_at, named}
use Rattle.mvm_isolate.specs.Sound.{Grows}
use Rattle.mvm_isolate.specs.declared.stop.Stop.{Stop}
use Rattle.mvm_current.specs.Keys.{AreKeys}
use Rattle.mvm_object.specs.Coming.{point_of, Comes, IsFor}
use Rattle.mvm_object.specs.Entries.{once_initialised}
use Rattle.mvm_object.specs.Going.{Context, Point, Went}
use Rattle.mvm_object.specs.declared.state.ThreadState.{ThreadState}
use Rattle.mvm_object.proofs.Points.{look_grows, point_grows}

goes_at_once : (c : Context) (name : List ℕ) (class : Lineage) (p : Point) (go : Point → Result Went Stop)
    → looked_up (c.look.class name) ≡ Ok class → begun c.thread (p.isolate.classes.states name) ≡ begin.Done → once_initialised c name p go ≡ go p
unfolding once_initialised links_and_begins begins
goes_at_once c name class p go found done = rw (found, done) refl

pub once_done : (c : Context) (n : Numbered) (s : StackParts) (thread mirror : ℕ) (class : Lineage) (go : Point → Result Went Stop)
    → IsFor c n thread → looked_up ((look_of n).class (name_at n mirror)) ≡ Ok class → begun thread ((named n).classes.states (name_at n mirror)) ≡ begin.Done
    → once_initialised c (name_at n mirror) (point_of n s) go ≡ go (point_of n s)
once_done c n s thread mirror class go is found done =
    goes_at_once c (name_at n mirror) class (point_of n s) go (rw is.look found) (rw is.number done)

-- ---- an isolate that only grew

pub for_grows : (old new : Numbered) (c : Context) (thread : ℕ) → Grows old new → IsFor c old thread → IsFor c new thread
for_grows old new c thread grows is = record {
  look = is.look ∙ look_grows old new grows;
  launch = is.launch ∙ sym grows.launch;
  number = is.number;
}

pub comes_at : (f : Point → Result Went Stop) (result : Result ThreadState Stop) (old mid new : Numbered) (stack left : StackParts) (object : Option ℕ)
    → Grows old mid → AreKeys old stack → named mid ≡ named old → Comes result (f (point_of mid stack)) new left object → Comes result (f (point_of old stack)) new left object
comes_at f result old mid new stack left object grows keys same comes =
    subst (λ (p : Point). Comes result (f p) new left object) (point_grows old mid stack grows keys same) comes
