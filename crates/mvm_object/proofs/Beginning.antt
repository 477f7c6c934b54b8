-- Where an attempt goes on that wants a class initialised, nothing has changed.
use Rattle.std.proofs.Common.{◌≡◌, ℕ, List, Bool, true, false, refl, sym, ap}
use Rattle.std.specs.Prelude.{Result, Ok, Err}
use Rattle.mvm_layout.specs.declared.parts.Parts.{Parts}
use Rattle.mvm_mirror.specs.States.{begun}
use Rattle.mvm_mirror.specs.declared.state.Begin.{Begin}
use Rattle.mvm_mirror.specs.declared.state.Begin.TheVariants as begin
use Rattle.mvm_set.specs.declared.class.Lineage.{Lineage}
use Rattle.mvm_isolate.specs.Faults.{looked_up}
use Rattle.mvm_isolate.specs.Initialise.{run, if_room, begun_by, begins, linked_first, links_and_begins}
use Rattle.mvm_isolate.specs.Isolate.{Isolate}
use Rattle.mvm_isolate.specs.Look.{Look}
use Rattle.mvm_isolate.specs.declared.stop.Stop.{Stop}
use Rattle.mvm_base.specs.Answers.{◌>>=◌}

-- what a beginning is, and what it leaves
pair_of : (x y : Begin × Isolate) → ◌≡◌ {A = Result (Begin × Isolate) Stop} (Ok x) (Ok y) → x ≡ y
pair_of x y e = cc

begin_of : (a b : Begin) (s t : Isolate) → ◌≡◌ {A = Result (Begin × Isolate) Stop} (Ok (a, s)) (Ok (b, t)) → a ≡ b
begin_of a b s t e = ap (λ (x : Begin × Isolate). x.0) (pair_of (a, s) (b, t) e)

left_of : (a b : Begin) (s t : Isolate) → ◌≡◌ {A = Result (Begin × Isolate) Stop} (Ok (a, s)) (Ok (b, t)) → t ≡ s
left_of a b s t e = sym (ap (λ (x : Begin × Isolate). x.1) (pair_of (a, s) (b, t) e))

-- with a frame it is no attempt that goes on
run_not_done : (room : Bool) (ran : Result Isolate Stop) (new : Isolate) → (ran >>= if_room room) ≡ Ok (begin.Done, new) → ⊥
run_not_done true (Ok s) new e = absurd (let k : begin.Run ≡ begin.Done = begin_of begin.Run begin.Done s new e in cc)
run_not_done false (Ok s) new e = let k : if_room false s ≡ Ok (begin.Done, new) = e in cc
run_not_done room (Err stop) new e = let k : (Err stop >>= if_room room) ≡ Ok (begin.Done, new) = e in cc

begun_same : (room : Bool) (thread : ℕ) (name : List ℕ) (file : Parts) (s : Isolate) (way : Begin) (new : Isolate) → begun_by room thread name file s way ≡ Ok (begin.Done, new) → new ≡ s
begun_same room thread name file s begin.Run new e = absurd (run_not_done room (run thread name file s) new e)
begun_same room thread name file s begin.Done new e = left_of begin.Done begin.Done s new e
begun_same room thread name file s begin.Wait new e = absurd (let k : begin.Wait ≡ begin.Done = begin_of begin.Wait begin.Done s new e in cc)
begun_same room thread name file s begin.Erroneous new e = absurd (let k : begin.Erroneous ≡ begin.Done = begin_of begin.Erroneous begin.Done s new e in cc)

begins_by : (room : Bool) (thread : ℕ) (name : List ℕ) (s : Isolate) (way : Begin) (found : Result Lineage Stop) (new : Isolate)
    → (found >>= λ class. begun_by room thread name class.file s way) ≡ Ok (begin.Done, new) → new ≡ s
begins_by room thread name s way (Ok class) new e = begun_same room thread name class.file s way new e
begins_by room thread name s way (Err stop) new e = let k : (Err stop >>= λ (class : Lineage). begun_by room thread name class.file s way) ≡ Ok (begin.Done, new) = e in cc

pub begins_same : (look : Look) (room : Bool) (thread : ℕ) (name : List ℕ) (s new : Isolate) → begins look room thread name s ≡ Ok (begin.Done, new) → new ≡ s
unfolding begins
begins_same look room thread name s new e = begins_by room thread name s (begun thread (s.classes.states name)) (looked_up (look.class name)) new e

linked_then : (look : Look) (room : Bool) (thread : ℕ) (name : List ℕ) (s new : Isolate) (is : Result (Unit {0}) Stop)
    → (is >>= λ linked. begins look room thread name s) ≡ Ok (begin.Done, new) → new ≡ s
linked_then look room thread name s new (Ok done) e = begins_same look room thread name s new e
linked_then look room thread name s new (Err stop) e = let k : (Err stop >>= λ (linked : Unit {0}). begins look room thread name s) ≡ Ok (begin.Done, new) = e in cc

pub done_same : (look : Look) (room : Bool) (thread : ℕ) (name : List ℕ) (s new : Isolate) → links_and_begins look room thread name s ≡ Ok (begin.Done, new) → new ≡ s
unfolding links_and_begins
done_same look room thread name s new e = linked_then look room thread name s new (linked_first look name (begun thread (s.classes.states name))) e

-- ---- nor where the class is erroneous

run_not_erroneous : (room : Bool) (ran : Result Isolate Stop) (new : Isolate) → (ran >>= if_room room) ≡ Ok (begin.Erroneous, new) → ⊥
run_not_erroneous true (Ok s) new e = absurd (let k : begin.Run ≡ begin.Erroneous = begin_of begin.Run begin.Erroneous s new e in cc)
run_not_erroneous false (Ok s) new e = let k : if_room false s ≡ Ok (begin.Erroneous, new) = e in cc
run_not_erroneous room (Err stop) new e = let k : (Err stop >>= if_room room) ≡ Ok (begin.Erroneous, new) = e in cc

begun_erroneous : (room : Bool) (thread : ℕ) (name : List ℕ) (file : Parts) (s : Isolate) (way : Begin) (new : Isolate) → begun_by room thread name file s way ≡ Ok (begin.Erroneous, new) → new ≡ s
begun_erroneous room thread name file s begin.Run new e = absurd (run_not_erroneous room (run thread name file s) new e)
begun_erroneous room thread name file s begin.Erroneous new e = left_of begin.Erroneous begin.Erroneous s new e
begun_erroneous room thread name file s begin.Wait new e = absurd (let k : begin.Wait ≡ begin.Erroneous = begin_of begin.Wait begin.Erroneous s new e in cc)
begun_erroneous room thread name file s begin.Done new e = absurd (let k : begin.Done ≡ begin.Erroneous = begin_of begin.Done begin.Erroneous s new e in cc)

erroneous_by : (room : Bool) (thread : ℕ) (name : List ℕ) (s : Isolate) (way : Begin) (found : Result Lineage Stop) (new : Isolate)
    → (found >>= λ class. begun_by room thread name class.file s way) ≡ Ok (begin.Erroneous, new) → new ≡ s
erroneous_by room thread name s way (Ok class) new e = begun_erroneous room thread name class.file s way new e
erroneous_by room thread name s way (Err stop) new e = let k : (Err stop >>= λ (class : Lineage). begun_by room thread name class.file s way) ≡ Ok (begin.Erroneous, new) = e in cc

pub begins_erroneous : (look : Look) (room : Bool) (thread : ℕ) (name : List ℕ) (s new : Isolate) → begins look room thread name s ≡ Ok (begin.Erroneous, new) → new ≡ s
unfolding begins
begins_erroneous look room thread name s new e = erroneous_by room thread name s (begun thread (s.classes.states name)) (looked_up (look.class name)) new e

erroneous_then : (look : Look) (room : Bool) (thread : ℕ) (name : List ℕ) (s new : Isolate) (is : Result (Unit {0}) Stop)
    → (is >>= λ linked. begins look room thread name s) ≡ Ok (begin.Erroneous, new) → new ≡ s
erroneous_then look room thread name s new (Ok done) e = begins_erroneous look room thread name s new e
erroneous_then look room thread name s new (Err stop) e = let k : (Err stop >>= λ (linked : Unit {0}). begins look room thread name s) ≡ Ok (begin.Erroneous, new) = e in cc

pub erroneous_same : (look : Look) (room : Bool) (thread : ℕ) (name : List ℕ) (s new : Isolate) → links_and_begins look room thread name s ≡ Ok (begin.Erroneous, new) → new ≡ s
unfolding links_and_begins
erroneous_same look room thread name s new e = erroneous_then look room thread name s new (linked_first look name (begun thread (s.classes.states name))) e

-- ---- it begins only where there is room

ran_room : (room : Bool) (ran : Result Isolate Stop) (new : Isolate) → (ran >>= if_room room) ≡ Ok (begin.Run, new) → room ≡ true
ran_room true ran new e = refl
ran_room false (Ok s) new e = let k : if_room false s ≡ Ok (begin.Run, new) = e in cc
ran_room false (Err stop) new e = let k : (Err stop >>= if_room false) ≡ Ok (begin.Run, new) = e in cc

begun_room : (room : Bool) (thread : ℕ) (name : List ℕ) (file : Parts) (s : Isolate) (way : Begin) (new : Isolate) → begun_by room thread name file s way ≡ Ok (begin.Run, new) → room ≡ true
begun_room room thread name file s begin.Run new e = ran_room room (run thread name file s) new e
begun_room room thread name file s begin.Done new e = absurd (let k : begin.Done ≡ begin.Run = begin_of begin.Done begin.Run s new e in cc)
begun_room room thread name file s begin.Wait new e = absurd (let k : begin.Wait ≡ begin.Run = begin_of begin.Wait begin.Run s new e in cc)
begun_room room thread name file s begin.Erroneous new e = absurd (let k : begin.Erroneous ≡ begin.Run = begin_of begin.Erroneous begin.Run s new e in cc)

room_by : (room : Bool) (thread : ℕ) (name : List ℕ) (s : Isolate) (way : Begin) (found : Result Lineage Stop) (new : Isolate)
    → (found >>= λ class. begun_by room thread name class.file s way) ≡ Ok (begin.Run, new) → room ≡ true
room_by room thread name s way (Ok class) new e = begun_room room thread name class.file s way new e
room_by room thread name s way (Err stop) new e = let k : (Err stop >>= λ (class : Lineage). begun_by room thread name class.file s way) ≡ Ok (begin.Run, new) = e in cc

pub begins_room : (look : Look) (room : Bool) (thread : ℕ) (name : List ℕ) (s new : Isolate) → begins look room thread name s ≡ Ok (begin.Run, new) → room ≡ true
unfolding begins
begins_room look room thread name s new e = room_by room thread name s (begun thread (s.classes.states name)) (looked_up (look.class name)) new e

room_then : (look : Look) (room : Bool) (thread : ℕ) (name : List ℕ) (s new : Isolate) (is : Result (Unit {0}) Stop)
    → (is >>= λ linked. begins look room thread name s) ≡ Ok (begin.Run, new) → room ≡ true
room_then look room thread name s new (Ok done) e = begins_room look room thread name s new e
room_then look room thread name s new (Err stop) e = let k : (Err stop >>= λ (linked : Unit {0}). begins look room thread name s) ≡ Ok (begin.Run, new) = e in cc

pub run_room : (look : Look) (room : Bool) (thread : ℕ) (name : List ℕ) (s new : Isolate) → links_and_begins look room thread name s ≡ Ok (begin.Run, new) → room ≡ true
unfolding links_and_begins
run_room look room thread name s new e = room_then look room thread name s new (linked_first look name (begun thread (s.classes.states name))) e
