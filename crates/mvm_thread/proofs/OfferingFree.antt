-- Offers on a link on which no other thread sends, and how they go through the parts of an attempt.
use Rattle.std.specs.Prelude.{◌≡◌, ◌<◌, ℕ, List, length, Bool, true, false, cond, Result, Ok, Err}
use Rattle.mvm_base.specs.Answers.{◌>>=◌}
use Rattle.mvm_base.specs.declared.value.Word.{Word}
use Rattle.mvm_current.specs.Frames.{Frame, pushed}
use Rattle.mvm_history.specs.declared.launch.Launch.{Launch}
use Rattle.mvm_isolate.specs.Faults.{looked_up}
use Rattle.mvm_isolate.specs.Initialise.{links_and_begins}
use Rattle.mvm_isolate.specs.Isolate.{Isolate}
use Rattle.mvm_isolate.specs.declared.stop.Stop.{Stop}
use Rattle.mvm_mirror.specs.declared.state.Begin.{Begin}
use Rattle.mvm_mirror.specs.declared.state.Begin.TheVariants as begin
use Rattle.mvm_native.specs.Links.{is_another, use_of}
use Rattle.mvm_native.specs.declared.env.LinkUse.{LinkUse}
use Rattle.mvm_native.specs.declared.out.Act.{Act as ActOf}
use Rattle.mvm_native.specs.declared.out.Act.TheVariants.{Offer, Receive, Ask}
use Rattle.mvm_native.specs.declared.out.Out.{Out}
use Rattle.mvm_native.specs.declared.out.Out.TheVariants.{Act}
use Rattle.mvm_object.specs.Entries.{by_begin, may_begin, once_begun, once_initialised}
use Rattle.mvm_object.specs.Going.{After, acts, Context, Point, Went, going_on, in_isolate, pushing}

-- ---- what is told of an offer

-- the link is one of the launch, and no other thread sends on it
pub record IsFree (launch : Launch) (thread : ℕ) (links : List LinkUse) (link : ℕ) : Type 0 where
  pub within : link < length launch.links
  pub sender : is_another thread (use_of links link).sender ≡ false

abbrev pub FreeAct : Launch → ℕ → List LinkUse → ActOf → Type 0
FreeAct launch thread links (Offer link message) = IsFree launch thread links link
FreeAct launch thread links (Receive link) = Unit {0}
FreeAct launch thread links (Ask ask) = Unit {0}

abbrev pub Free : Launch → ℕ → List LinkUse → Out → Type 0
Free launch thread links (Act act) = FreeAct launch thread links act
Free launch thread links _ = Unit {0}

-- what is left to be done is no offer on a link that another thread sends on
abbrev pub FreeAfter : Context → After → Type 0
FreeAfter c (acts act doing) = FreeAct c.launch c.thread c.links act
FreeAfter c _ = Unit {0}

abbrev pub FineOf : Context → Result Went Stop → Type 0
FineOf c (Ok w) = FreeAfter c w.after
FineOf c (Err stop) = Unit {0}

-- so it is of all that an attempt comes to
pub record Fine (c : Context) (r : Result Went Stop) : Type 0 where
  pub by : FineOf c r

-- ---- the ways to go on

pub then_fine : {A : Type 0} (c : Context) (r : Result A Stop) (f : A → Result Went Stop) → ((x : A) → Fine c (f x)) → Fine c (r >>= f)
then_fine c (Ok x) f h = h x
then_fine c (Err stop) f h = record { by = tt }

pub if_fine : (c : Context) (b : Bool) (x y : Result Went Stop) → Fine c x → Fine c y → Fine c (cond b x y)
if_fine c true x y p q = p
if_fine c false x y p q = q

pub on_fine : (c : Context) (next : ℕ) (f : Frame) (p : Point) → Fine c (Ok (going_on c next f p))
on_fine c next f p = record { by = tt }

pub pushing_fine : (c : Context) (next : ℕ) (word : Word) (p : Point) → Fine c (pushing c next word p)
pushing_fine c next word p = then_fine c (pushed word p.frame) _ (λ f. on_fine c next f p)

-- ---- classes that are initialised first

pub begin_fine : (c : Context) (class : List ℕ) (p : Point) (go : Point → Result Went Stop) → ((q : Point) → Fine c (go q)) → (x : Begin × Isolate) → Fine c (by_begin c class p go x)
begin_fine c class p go h (begin.Done, s) = h (in_isolate s p)
begin_fine c class p go h (begin.Wait, s) = record { by = tt }
begin_fine c class p go h (begin.Erroneous, s) = record { by = tt }
begin_fine c class p go h (begin.Run, s) = record { by = tt }

begun_fine : (c : Context) (class : List ℕ) (p : Point) (go : Point → Result Went Stop) → ((q : Point) → Fine c (go q)) → Fine c (once_begun c class p go)
begun_fine c class p go h = then_fine c (links_and_begins c.look (may_begin c p) c.thread class p.isolate) _ (begin_fine c class p go h)

pub once_fine : (c : Context) (class : List ℕ) (p : Point) (go : Point → Result Went Stop) → ((q : Point) → Fine c (go q)) → Fine c (once_initialised c class p go)
unfolding once_initialised
once_fine c class p go h = then_fine c (looked_up (c.look.class class)) _ (λ found. begun_fine c class p go h)
