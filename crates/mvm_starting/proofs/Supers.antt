-- What is left of an attempt that has supers initialised first, from where the thread was.
use Rattle.std.proofs.Common.{◌≡◌, ◌∙◌, ◌≤◌, ℕ, ◌+◌, List, ◌∷◌, length, drop, Bool, true, false, Option, Some, None, Result, Ok, Err, refl, sym, ap, subst}
use Rattle.std.specs.Prelude.{IsSome, slice_get}
use Rattle.std.proofs.lemmas.List.{drop_all}
use Rattle.mvm_base.specs.Answers.{◌>>=◌}
use Rattle.mvm_frame.specs.Parts.{StackParts}
use Rattle.mvm_mirror.specs.States.{begun}
use Rattle.mvm_mirror.specs.declared.state.Begin.{Begin}
use Rattle.mvm_mirror.specs.declared.state.Begin.TheVariants as begin
use Rattle.mvm_layout.specs.Flags.{is_static}
use Rattle.mvm_layout.specs.declared.parts.Member.{Member}
use Rattle.mvm_set.specs.Names.{is_interface}
use Rattle.mvm_set.specs.declared.class.Lineage.{Lineage}
use Rattle.mvm_set.specs.declared.own.OwnWalk.{OwnWalk}
use Rattle.mvm_isolate.specs.Faults.{looked_up}
use Rattle.mvm_isolate.specs.Initialise.{begun_by, begins}
use Rattle.mvm_isolate.specs.Isolate.{Isolate}
use Rattle.mvm_isolate.specs.Look.{Look}
use Rattle.mvm_isolate.specs.Numbered.{Numbered, look_of, name_at, named, IsClass}
use Rattle.mvm_isolate.specs.Sound.{Grows}
use Rattle.mvm_isolate.specs.Supers.{supers_of, with_code_in}
use Rattle.mvm_isolate.specs.declared.stop.Stop.{Stop}
use Rattle.mvm_isolate.proofs.Keeping.{grows_same, grows_then}
use Rattle.mvm_current.specs.Frames.{has_room, LAST}
use Rattle.mvm_current.specs.Keys.{callers_named, top_named, AreKeys}
use Rattle.mvm_current.proofs.Growth.{keys_grow, name_grows}
use Rattle.mvm_current.proofs.Reading.{drop_step}
use Rattle.mvm_object.specs.Beginning.{Begins}
use Rattle.mvm_object.specs.Coming.{doing_named, point_of, went_of, IsFor}
use Rattle.mvm_object.specs.Entries.{by_begin, may_begin}
use Rattle.mvm_object.specs.Going.{Context, Point, Went, in_isolate}
use Rattle.mvm_object.specs.declared.initialised.Once.{Once}
use Rattle.mvm_object.specs.declared.initialised.Once.TheVariants.{Goes, Ends}
use Rattle.mvm_object.specs.declared.state.ThreadState.{ThreadState}
use Rattle.mvm_object.proofs.Initialising.{frames_there, is_for_grows}
use Rattle.mvm_object.proofs.Points.{look_grows, point_grows, point_in}
use Rattle.mvm_starting.specs.Supers.{super_begun, GoesFirst}
use Rattle.mvm_starting.specs.Initialising.{initialise, initialised, initialiser_called, supers_first}
use Rattle.mvm_starting.specs.Left.{left_named, LeavesState}

-- ---- one super

by_begin_in : (c : Context) (name : List ℕ) (p : Point) (go : Point → Result Went Stop) (way : Begin) (s : Isolate) → by_begin c name (in_isolate s p) go (way, s) ≡ by_begin c name p go (way, s)
by_begin_in c name p go begin.Done s = refl
by_begin_in c name p go begin.Wait s = refl
by_begin_in c name p go begin.Erroneous s = refl
by_begin_in c name p go begin.Run s = refl

-- what the thread is told is what the isolate has
asked : (c : Context) (old : Numbered) (thread : ℕ) (name : List ℕ) (stack : StackParts) (room : Bool) → IsFor c old thread
    → room ≡ has_room old.env.launch.limits 0 0 (top_named old stack ∷ callers_named old stack)
    → begins c.look (may_begin c (point_of old stack)) c.thread name (named old) ≡ begins (look_of old) room thread name (named old)
asked c old thread name stack room is fits = rw (is.look, is.launch, is.number, fits) refl

pub begun_goes : (c : Context) (old mid : Numbered) (thread mirror : ℕ) (stack left : StackParts) (room : Bool) (way : Begin) (go : Point → Result Went Stop) (once : Result Once Stop)
    → IsFor c old thread → Grows old mid → AreKeys old stack → IsClass old mirror → room ≡ has_room old.env.launch.limits 0 0 (top_named old stack ∷ callers_named old stack)
    → begins (look_of old) room thread (name_at old mirror) (named old) ≡ Ok (way, named mid)
    → Begins once (by_begin c (name_at mid mirror) (point_of mid stack) go (way, named mid)) go mid left c.object
    → Begins once (super_begun c (name_at old mirror) (point_of old stack) go) go mid left c.object
begun_goes c old mid thread mirror stack left room way go once is grows keys class fits made begins =
    let name : name_at mid mirror ≡ name_at old mirror = name_grows old mid mirror grows class in
    let at : point_of mid stack ≡ in_isolate (named mid) (point_of old stack) = point_in old mid stack grows keys in
    let here : by_begin c (name_at mid mirror) (point_of mid stack) go (way, named mid) ≡ by_begin c (name_at old mirror) (point_of old stack) go (way, named mid) =
    ap (λ (n : List ℕ). by_begin c n (point_of mid stack) go (way, named mid)) name
    ∙ ap (λ (p : Point). by_begin c (name_at old mirror) p go (way, named mid)) at
    ∙ by_begin_in c (name_at old mirror) (point_of old stack) go way (named mid) in
    let all : super_begun c (name_at old mirror) (point_of old stack) go ≡ by_begin c (name_at old mirror) (point_of old stack) go (way, named mid) =
    ap (λ (r : Result (Begin × Isolate) Stop). r >>= by_begin c (name_at old mirror) (point_of old stack) go) (asked c old thread (name_at old mirror) stack room is fits ∙ made) in
    subst (λ (r : Result Went Stop). Begins once r go mid left c.object) (here ∙ sym all) begins

pub begun_stops : (c : Context) (old : Numbered) (thread : ℕ) (name : List ℕ) (stack : StackParts) (room : Bool) (go : Point → Result Went Stop) (stop : Stop)
    → IsFor c old thread → room ≡ has_room old.env.launch.limits 0 0 (top_named old stack ∷ callers_named old stack)
    → begins (look_of old) room thread name (named old) ≡ Err stop → super_begun c name (point_of old stack) go ≡ Err stop
begun_stops c old thread name stack room go stop is fits made =
    ap (λ (r : Result (Begin × Isolate) Stop). r >>= by_begin c name (point_of old stack) go) (asked c old thread name stack room is fits ∙ made)

-- what is left with a frame is what is left
pub went_left : (n : Numbered) (s : StackParts) (object : Option ℕ) (state : ThreadState) → IsSome s.rest.below.key → ◌≡◌ {A = Result Went Stop} (Ok (went_of n s object (doing_named n state))) (Ok (left_named n s object state))
went_left n s object state is = let frames = frames_there n s is in rw frames refl

-- what was answered, by its cases
pub begun_on : (once : Once) (number : ℕ) (definition : Result Went Stop) (go : Point → Result Went Stop) (n : Numbered) (s : StackParts) (object : Option ℕ)
    → once ≡ Goes number → Begins (Ok once) definition go n s object → definition ≡ go (point_of n s)
begun_on once number definition go n s object e begun = subst (λ (o : Once). Begins (Ok o) definition go n s object) e begun

pub begun_left : (once : Once) (state : ThreadState) (definition : Result Went Stop) (go : Point → Result Went Stop) (n : Numbered) (s : StackParts) (object : Option ℕ)
    → IsSome s.rest.below.key → once ≡ Ends state → Begins (Ok once) definition go n s object → definition ≡ Ok (left_named n s object state)
begun_left once state definition go n s object is e begun =
    let ended : definition ≡ Ok (went_of n s object (doing_named n state)) = subst (λ (o : Once). Begins (Ok o) definition go n s object) e begun in
    ended ∙ went_left n s object state is

-- ---- the super of a name

-- a class that is not found does not begin
pub super_missing : (c : Context) (old : Numbered) (thread : ℕ) (name : List ℕ) (names : List (List ℕ)) (stack : StackParts) (go : Point → Result Went Stop) (stop : Stop)
    → IsFor c old thread → looked_up ((look_of old).class name) ≡ Err stop → supers_first c (name ∷ names) go (point_of old stack) ≡ Err stop
unfolding supers_first begins
super_missing c old thread name names stack go stop is missing =
    ap (λ (r : Result Lineage Stop). (r >>= λ (class : Lineage). begun_by (may_begin c (point_of old stack)) c.thread name class.file (named old) (begun c.thread ((named old).classes.states name))) >>= by_begin c name (point_of old stack) (supers_first c names go))
    (ap (λ (look : Look). looked_up (look.class name)) is.look ∙ missing)

-- its number is that of the name, and the thread is where it was
pub super_here : (c : Context) (old mid : Numbered) (mirror : ℕ) (name : List ℕ) (names : List (List ℕ)) (stack : StackParts) (go : Point → Result Went Stop)
    → Grows old mid → AreKeys old stack → named mid ≡ named old → name_at mid mirror ≡ name
    → supers_first c (name ∷ names) go (point_of old stack) ≡ super_begun c (name_at mid mirror) (point_of mid stack) (supers_first c names go)
unfolding supers_first
super_here c old mid mirror name names stack go grows keys same e =
    ap (λ (p : Point). super_begun c name p (supers_first c names go)) (sym (point_grows old mid stack grows keys same))
    ∙ ap (λ (n : List ℕ). super_begun c n (point_of mid stack) (supers_first c names go)) (sym e)

-- ---- superinterfaces, one after another

-- those before these are done: nothing has changed by names, and these are left
pub record Doing (start now : Numbered) (stack left : StackParts) (thread : ℕ) (owns rest : List OwnWalk) : Type 0 where
  pub same : (c : Context) (go : Point → Result Went Stop) → IsFor c start thread → supers_first c (with_code_in owns) go (point_of start stack) ≡ supers_first c (with_code_in rest) go (point_of now left)
  pub isolate : named now ≡ named start
  pub frames : left ≡ stack
  pub grows : Grows start now
  pub links : now.env.links ≡ start.env.links

pub doing_first : (start : Numbered) (stack : StackParts) (thread : ℕ) (owns : List OwnWalk) → Doing start start stack stack thread owns owns
doing_first start stack thread owns = record { same = λ c go is. refl; isolate = refl; frames = refl; grows = grows_same start; links = refl }

pub doing_step : (c : Context) (start now : Numbered) (stack left : StackParts) (thread : ℕ) (owns : List OwnWalk) (place : ℕ) (own : OwnWalk) (go : Point → Result Went Stop)
    → Doing start now stack left thread owns (drop place owns) → slice_get owns place ≡ Some own → IsFor c start thread
    → supers_first c (with_code_in owns) go (point_of start stack) ≡ supers_first c (with_code_in (own ∷ drop (place + 1) owns)) go (point_of now left)
doing_step c start now stack left thread owns place own go doing at is =
    doing.same c go is ∙ ap (λ (rest : List OwnWalk). supers_first c (with_code_in rest) go (point_of now left)) (drop_step owns place own at)

pub doing_more : (start now new : Numbered) (stack left after : StackParts) (thread : ℕ) (owns : List OwnWalk) (place : ℕ) (own : OwnWalk)
    → Doing start now stack left thread owns (drop place owns) → slice_get owns place ≡ Some own
    → ((c : Context) (go : Point → Result Went Stop) → IsFor c now thread → supers_first c (with_code_in (own ∷ drop (place + 1) owns)) go (point_of now left) ≡ supers_first c (with_code_in (drop (place + 1) owns)) go (point_of new after))
    → named new ≡ named now → after ≡ left → Grows now new → new.env.links ≡ now.env.links
    → Doing start new stack after thread owns (drop (place + 1) owns)
doing_more start now new stack left after thread owns place own doing at step isolate frames grows links = record {
  same = λ c go is. doing_step c start now stack left thread owns place own go doing at is ∙ step c go (is_for_grows c start now thread doing.grows is);
  isolate = isolate ∙ doing.isolate;
  frames = frames ∙ doing.frames;
  grows = grows_then start now new doing.grows grows;
  links = links ∙ doing.links;
}

-- after the last one the attempt goes on
pub doing_ends : (c : Context) (start now : Numbered) (stack left : StackParts) (thread : ℕ) (owns : List OwnWalk) (place : ℕ) (go : Point → Result Went Stop)
    → Doing start now stack left thread owns (drop place owns) → length owns ≤ place → IsFor c start thread
    → supers_first c (with_code_in owns) go (point_of start stack) ≡ go (point_of now left)
unfolding supers_first
doing_ends c start now stack left thread owns place go doing h is =
    doing.same c go is ∙ ap (λ (rest : List OwnWalk). supers_first c (with_code_in rest) go (point_of now left)) (drop_all place owns h)

-- ---- all of them, and what comes after

pub first_on : (first : Option ThreadState) (definition : Result Went Stop) (go : Point → Result Went Stop) (n : Numbered) (s : StackParts) (object : Option ℕ)
    → first ≡ None → GoesFirst (Ok first) definition go n s object → definition ≡ go (point_of n s)
first_on first definition go n s object e goes = subst (λ (o : Option ThreadState). GoesFirst (Ok o) definition go n s object) e goes

pub keys_later : (old now : Numbered) (stack left : StackParts) → Grows old now → left ≡ stack → AreKeys old stack → AreKeys now left
keys_later old now stack left grows e keys = subst (λ (s : StackParts). AreKeys now s) (sym e) (keys_grow old now stack grows keys)

-- an interface has none
pub none_first : (c : Context) (class : Lineage) (go : Point → Result Went Stop) (p : Point) → is_interface class.file ≡ true → supers_first c (supers_of class) go p ≡ go p
unfolding supers_of supers_first
none_first c class go p e = rw e refl

-- a class that was found stays found
pub found_later : (old mid : Numbered) (mirror : ℕ) (class : Lineage) → Grows old mid → IsClass old mirror
    → looked_up ((look_of old).class (name_at old mirror)) ≡ Ok class → looked_up ((look_of mid).class (name_at mid mirror)) ≡ Ok class
found_later old mid mirror class grows is found =
    ap (λ (name : List ℕ). looked_up ((look_of mid).class name)) (name_grows old mid mirror grows is)
    ∙ ap (λ (look : Look). looked_up (look.class (name_at old mirror))) (sym (look_grows old mid grows)) ∙ found

-- its name is what it was
pub called_later : (c : Context) (old mid new : Numbered) (mirror : ℕ) (member : Option Member) (definition : Result Went Stop) (s left : StackParts) (result : Result ThreadState Stop)
    → Grows old mid → IsClass old mirror → definition ≡ initialiser_called c (name_at old mirror) member (point_of mid s)
    → LeavesState result (initialiser_called c (name_at mid mirror) member (point_of mid s)) new left c.object → LeavesState result definition new left c.object
called_later c old mid new mirror member definition s left result grows is goes leaves =
    subst (λ (r : Result Went Stop). LeavesState result r new left c.object)
    (ap (λ (name : List ℕ). initialiser_called c name member (point_of mid s)) (name_grows old mid mirror grows is) ∙ sym goes) leaves

-- a method that is not static is not called
pub not_static : (c : Context) (class : List ℕ) (found : Option Member) (m : Member) (p : Point) → found ≡ Some m → is_static m.flags ≡ false → initialiser_called c class found p ≡ Ok (initialised c class p)
not_static c class found m p e isnt = rw (e, isnt) refl

pub not_found : (c : Context) (class : List ℕ) (found : Option Member) (p : Point) → found ≡ None → initialiser_called c class found p ≡ Ok (initialised c class p)
not_found c class found p e = rw e refl

-- in its last stage the class is initialised
pub at_last : (c : Context) (class : List ℕ) (p : Point) → p.frame.body.pc ≡ LAST → initialise c class p ≡ Ok (initialised c class p)
unfolding initialise
at_last c class p e = rw e refl
