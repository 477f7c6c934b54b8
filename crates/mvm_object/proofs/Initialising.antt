-- What is left of an attempt that wants a class initialised, from where the thread was.
use Rattle.std.proofs.Common.{◌≡◌, ◌≢◌, ◌∙◌, ℕ, List, [], ◌∷◌, Bool, true, false, Option, Some, None, Result, Ok, Err, refl, sym, ap, subst}
use Rattle.std.specs.Prelude.{IsSome, OnErr, map}
use Rattle.mvm_base.specs.Answers.{◌>>=◌}
use Rattle.mvm_frame.specs.Parts.{StackParts, frames_by}
use Rattle.mvm_frame.specs.declared.key.FrameKey.{FrameKey}
use Rattle.mvm_mirror.specs.declared.state.Begin.{Begin}
use Rattle.mvm_mirror.specs.declared.state.Begin.TheVariants as begin
use Rattle.mvm_history.specs.declared.launch.Launch.{Launch}
use Rattle.mvm_set.specs.declared.class.Lineage.{Lineage}
use Rattle.mvm_isolate.specs.Faults.{looked_up}
use Rattle.mvm_isolate.specs.Initialise.{links_and_begins}
use Rattle.mvm_isolate.specs.Look.{Look}
use Rattle.mvm_isolate.specs.Isolate.{Isolate}
use Rattle.mvm_isolate.specs.Numbered.{Numbered, look_of, name_at, named, IsClass}
use Rattle.mvm_isolate.specs.Sound.{Grows}
use Rattle.mvm_isolate.specs.declared.stop.Stop.{Stop}
use Rattle.mvm_isolate.specs.declared.stop.Stop.TheVariants.{OutOfMemory}
use Rattle.mvm_current.specs.Frames.{Frame, has_room}
use Rattle.mvm_current.specs.Keys.{frame_named, frames_named, top_named, callers_named, AreKeys}
use Rattle.mvm_current.proofs.Entering.{frames_are}
use Rattle.mvm_current.proofs.Growth.{name_grows}
use Rattle.mvm_object.specs.Beginning.{Begins}
use Rattle.mvm_object.specs.Coming.{point_of, IsFor}
use Rattle.mvm_object.specs.Entries.{by_begin, may_begin, once_begun, once_initialised}
use Rattle.mvm_object.specs.Going.{Context, Point, Went, in_isolate}
use Rattle.mvm_object.specs.declared.initialised.Once.{Once}
use Rattle.mvm_object.proofs.Points.{look_grows, point_grows, point_in}

-- ---- frames

there : (n : Numbered) (key : Option FrameKey) (s : StackParts) → s.rest.below.key ≡ key → IsSome key → frames_named n s ≡ top_named n s ∷ callers_named n s
there n (Some key) s e is = frames_are n s key e
there n None s e is = absurd (let k : false ≡ true = is in cc)

pub frames_there : (n : Numbered) (s : StackParts) → IsSome s.rest.below.key → frames_named n s ≡ top_named n s ∷ callers_named n s
frames_there n s is = there n s.rest.below.key s refl is

none_there : (n : Numbered) (s : StackParts) → s.rest.below.key ≡ None → frames_named n s ≡ []
unfolding frames_named
none_there n s e = ap (λ (key : Option FrameKey). map (frame_named n) (frames_by key s)) e

split_by : (n : Numbered) (key : Option FrameKey) (s : StackParts) (f : Frame) (fs : List Frame) → s.rest.below.key ≡ key → frames_named n s ≡ f ∷ fs → (top_named n s ≡ f) × (callers_named n s ≡ fs)
split_by n (Some key) s f fs e frames = let both : top_named n s ∷ callers_named n s ≡ f ∷ fs = sym (frames_are n s key e) ∙ frames in (cc, cc)
split_by n None s f fs e frames = absurd (let both : [] ≡ f ∷ fs = sym (none_there n s e) ∙ frames in cc)

-- the frames are the top one and its callers
pub split : (n : Numbered) (s : StackParts) (f : Frame) (fs : List Frame) → frames_named n s ≡ f ∷ fs → (top_named n s ≡ f) × (callers_named n s ≡ fs)
split n s f fs frames = split_by n s.rest.below.key s f fs refl frames

has_by : (n : Numbered) (key : Option FrameKey) (s : StackParts) (f : Frame) (fs : List Frame) → s.rest.below.key ≡ key → frames_named n s ≡ f ∷ fs → IsSome key
has_by n (Some key) s f fs e frames = refl
has_by n None s f fs e frames = absurd (let both : [] ≡ f ∷ fs = sym (none_there n s e) ∙ frames in cc)

-- where there are frames, there is a top one
pub has_frame : (n : Numbered) (s : StackParts) (f : Frame) (fs : List Frame) → frames_named n s ≡ f ∷ fs → IsSome s.rest.below.key
has_frame n s f fs frames = has_by n s.rest.below.key s f fs refl frames

-- ---- from where the thread was

pub on_err_then : (r : Result Once Stop) (A B : Type 0) → OnErr r A → (A → B) → OnErr r B
on_err_then (Ok once) A B a f = tt
on_err_then (Err stop) A B a f = f a

by_begin_in : (c : Context) (name : List ℕ) (p : Point) (go : Point → Result Went Stop) (way : Begin) (s : Isolate) → by_begin c name (in_isolate s p) go (way, s) ≡ by_begin c name p go (way, s)
by_begin_in c name p go begin.Done s = refl
by_begin_in c name p go begin.Wait s = refl
by_begin_in c name p go begin.Erroneous s = refl
by_begin_in c name p go begin.Run s = refl

-- what the thread is told is what the isolate has
asked : (c : Context) (old : Numbered) (thread : ℕ) (name : List ℕ) (stack : StackParts) (room : Bool) → IsFor c old thread
    → room ≡ has_room old.env.launch.limits 0 0 (top_named old stack ∷ callers_named old stack)
    → links_and_begins c.look (may_begin c (point_of old stack)) c.thread name (named old) ≡ links_and_begins (look_of old) room thread name (named old)
asked c old thread name stack room is fits = rw (is.look, is.launch, is.number, fits) refl

pub begun_goes : (c : Context) (old mid : Numbered) (thread mirror : ℕ) (stack left : StackParts) (room : Bool) (way : Begin) (go : Point → Result Went Stop) (once : Result Once Stop)
    → IsFor c old thread → Grows old mid → AreKeys old stack → IsClass old mirror → room ≡ has_room old.env.launch.limits 0 0 (top_named old stack ∷ callers_named old stack)
    → links_and_begins (look_of old) room thread (name_at old mirror) (named old) ≡ Ok (way, named mid)
    → Begins once (by_begin c (name_at mid mirror) (point_of mid stack) go (way, named mid)) go mid left c.object
    → Begins once (once_begun c (name_at old mirror) (point_of old stack) go) go mid left c.object
begun_goes c old mid thread mirror stack left room way go once is grows keys class fits made begins =
    let name : name_at mid mirror ≡ name_at old mirror = name_grows old mid mirror grows class in
    let at : point_of mid stack ≡ in_isolate (named mid) (point_of old stack) = point_in old mid stack grows keys in
    let here : by_begin c (name_at mid mirror) (point_of mid stack) go (way, named mid) ≡ by_begin c (name_at old mirror) (point_of old stack) go (way, named mid) =
    ap (λ (n : List ℕ). by_begin c n (point_of mid stack) go (way, named mid)) name
    ∙ ap (λ (p : Point). by_begin c (name_at old mirror) p go (way, named mid)) at
    ∙ by_begin_in c (name_at old mirror) (point_of old stack) go way (named mid) in
    let all : once_begun c (name_at old mirror) (point_of old stack) go ≡ by_begin c (name_at old mirror) (point_of old stack) go (way, named mid) =
    ap (λ (r : Result (Begin × Isolate) Stop). r >>= by_begin c (name_at old mirror) (point_of old stack) go) (asked c old thread (name_at old mirror) stack room is fits ∙ made) in
    subst (λ (r : Result Went Stop). Begins once r go mid left c.object) (here ∙ sym all) begins

pub begun_stops : (c : Context) (old : Numbered) (thread : ℕ) (name : List ℕ) (stack : StackParts) (room : Bool) (go : Point → Result Went Stop) (stop : Stop)
    → IsFor c old thread → room ≡ has_room old.env.launch.limits 0 0 (top_named old stack ∷ callers_named old stack)
    → links_and_begins (look_of old) room thread name (named old) ≡ Err stop → once_begun c name (point_of old stack) go ≡ Err stop
begun_stops c old thread name stack room go stop is fits made =
    ap (λ (r : Result (Begin × Isolate) Stop). r >>= by_begin c name (point_of old stack) go) (asked c old thread name stack room is fits ∙ made)

pub is_for_grows : (c : Context) (old mid : Numbered) (thread : ℕ) → Grows old mid → IsFor c old thread → IsFor c mid thread
is_for_grows c old mid thread grows is = record { look = is.look ∙ look_grows old mid grows; launch = is.launch ∙ sym grows.launch; number = is.number }

pub initialised_goes : (c : Context) (old mid new : Numbered) (thread mirror : ℕ) (class : List ℕ) (found : Lineage) (stack left : StackParts) (go : Point → Result Went Stop) (once : Result Once Stop)
    → IsFor c old thread → Grows old mid → AreKeys old stack → named mid ≡ named old → name_at mid mirror ≡ class → looked_up ((look_of old).class class) ≡ Ok found
    → Begins once (once_begun c (name_at mid mirror) (point_of mid stack) go) go new left c.object
    → Begins once (once_initialised c class (point_of old stack) go) go new left c.object
unfolding once_initialised
initialised_goes c old mid new thread mirror class found stack left go once is grows keys same name look begins =
    let at : point_of mid stack ≡ point_of old stack = point_grows old mid stack grows keys same in
    let here : once_begun c (name_at mid mirror) (point_of mid stack) go ≡ once_begun c class (point_of old stack) go =
    ap (λ (n : List ℕ). once_begun c n (point_of mid stack) go) name ∙ ap (λ (p : Point). once_begun c class p go) at in
    let all : (looked_up (c.look.class class) >>= λ (f : Lineage). once_begun c class (point_of old stack) go) ≡ once_begun c class (point_of old stack) go =
    ap (λ (r : Result Lineage Stop). r >>= λ (f : Lineage). once_begun c class (point_of old stack) go) (ap (λ (l : Look). looked_up (l.class class)) is.look ∙ look) in
    subst (λ (r : Result Went Stop). Begins once r go new left c.object) (here ∙ sym all) begins
