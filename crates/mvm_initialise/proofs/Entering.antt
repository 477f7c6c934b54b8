-- The lock of a class that has its class object, and of one that has none yet.
use Rattle.std.proofs.Common.{◌≡◌, ℕ, zero, suc, ◌+◌, ◌<◌, Bool, true, false, List, [], ◌∷◌, ◌++◌, length, Option, Some, None, Result, Ok, Err, refl, sym, ap, ◌∙◌, subst, arith}
use Rattle.std.specs.Prelude.{nat_lt, slice_get}
use Rattle.std.proofs.lemmas.List.{length_push}
use Rattle.std.proofs.lemmas.Option.{slice_get-get_or}
use Rattle.mvm_mirror.proofs.Changed.{get_set_same}
use Rattle.mvm_heap.specs.Heap.{words, placed, free, zeros}
use Rattle.mvm_heap.specs.Sorts.{words_needed}
use Rattle.mvm_heap.specs.declared.kind.ObjectKind.TheVariants.{Object}
use Rattle.mvm_native.specs.declared.out.Thrown.TheVariants.{OutOfMemoryError, StackOverflowError}
use Rattle.mvm_region.specs.declared.monitor.Monitor.{Monitor}
use Rattle.mvm_isolate.specs.Isolate.{Isolate, stopped, class_object, new_object}
use Rattle.mvm_isolate.specs.Monitors.{monitor_at, with_monitor}
use Rattle.mvm_isolate.specs.Types.{of_class}
use Rattle.mvm_isolate.specs.declared.stop.Stop.{Stop}
use Rattle.mvm_isolate.specs.declared.stop.Stop.TheVariants.{Throw}
use Rattle.mvm_initialise.specs.Locks.{class_locked, known_locked, monitor_entered, owner_in}
use Rattle.mvm_initialise.specs.Words.{has_words}
use Rattle.mvm_initialise.specs.declared.locks.Lock.TheVariants.{Entered}

pub known : (room : Bool) (thread object : ℕ) (name : List ℕ) (s : Isolate) → s.classes.objects name ≡ Some object → class_locked room thread name s ≡ known_locked room thread object s
unfolding class_locked class_object
known room thread object name s e = rw e refl

-- ---- where there is none

get_last : {X : Type 0} (xs : List X) (x : X) (n : ℕ) → length xs ≡ n → slice_get (xs ++ x ∷ []) n ≡ Some x
get_last [] x zero e = refl
get_last [] x (suc n) e = absurd (omega (arith, e))
get_last (y ∷ ys) x zero e = absurd (omega (arith, e))
get_last (y ∷ ys) x (suc n) e = get_last ys x n (omega (arith, e))

refused_by : (room : Bool) (thread : ℕ) (name : List ℕ) (s : Isolate) (e : Stop) (lacks : Bool) → nat_lt s.heap.size (words s.heap.objects + words_needed Object 0) ≡ lacks
    → s.classes.objects name ≡ None → has_words (words_needed Object 0) s ≡ Err e → class_locked room thread name s ≡ Err e
unfolding has_words class_locked class_object new_object placed
refused_by room thread name s e true f none h =
    let g = rw f at h in
    let is : Throw OutOfMemoryError ≡ e = cc in
    rw (none, f) (ap (λ (x : Stop). Err x) is)
refused_by room thread name s e false f none h =
    let g = rw f at h in absurd cc

-- its words are missing
pub refused : (room : Bool) (thread : ℕ) (name : List ℕ) (s : Isolate) (e : Stop) → s.classes.objects name ≡ None → has_words (words_needed Object 0) s ≡ Err e → class_locked room thread name s ≡ Err e
refused room thread name s e none h = refused_by room thread name s e _ refl none h

full_by : (thread : ℕ) (name : List ℕ) (s : Isolate) (lacks : Bool) → nat_lt s.heap.size (words s.heap.objects + words_needed Object 0) ≡ lacks
    → s.classes.objects name ≡ None → length s.heap.monitors ≡ length s.heap.objects → has_words (words_needed Object 0) s ≡ Ok tt → class_locked false thread name s ≡ stopped StackOverflowError
unfolding has_words class_locked known_locked monitor_entered class_object new_object placed
full_by thread name s true f none each h =
    let g = rw f at h in absurd cc
full_by thread name s false f none each h =
    let last : slice_get (s.heap.monitors ++ free ∷ []) (length s.heap.objects) ≡ Some free = get_last s.heap.monitors free (length s.heap.objects) each in
    rw (none, f) (rw last refl)

-- its frame does not fit
pub full : (thread : ℕ) (name : List ℕ) (s : Isolate) → s.classes.objects name ≡ None → length s.heap.monitors ≡ length s.heap.objects → has_words (words_needed Object 0) s ≡ Ok tt
    → class_locked false thread name s ≡ stopped StackOverflowError
full thread name s none each h = full_by thread name s _ refl none each h

-- the monitor of what was made
abbrev monitor_made : Result (ℕ × Isolate) Stop → Option Monitor
monitor_made (Ok x) = slice_get x.1.heap.monitors x.0
monitor_made (Err e) = None

new_monitor_by : (name : List ℕ) (s t : Isolate) (object : ℕ) (lacks : Bool) → nat_lt s.heap.size (words s.heap.objects + words_needed Object 0) ≡ lacks
    → s.classes.objects name ≡ None → length s.heap.monitors ≡ length s.heap.objects → class_object (of_class name) s ≡ Ok (object, t) → slice_get t.heap.monitors object ≡ Some free
unfolding class_object new_object placed
new_monitor_by name s t object true f none each h =
    let g = rw (none, f) at h in absurd cc
new_monitor_by name s t object false f none each h =
    let last : slice_get (s.heap.monitors ++ free ∷ []) (length s.heap.objects) ≡ Some free = get_last s.heap.monitors free (length s.heap.objects) each in
    let g = rw (none, f) at h in
    sym (ap monitor_made g) ∙ last

-- it is made, and entered for the first time
pub entered_new : (thread : ℕ) (name : List ℕ) (s t : Isolate) (object : ℕ) → s.classes.objects name ≡ None → length s.heap.monitors ≡ length s.heap.objects
    → class_object (of_class name) s ≡ Ok (object, t) → class_locked true thread name s ≡ Ok (Entered object, with_monitor object (record { owner = Some thread; count = 1 }) t)
unfolding class_locked known_locked monitor_entered
entered_new thread name s t object none each h =
    let m : slice_get t.heap.monitors object ≡ Some free = new_monitor_by name s t object _ refl none each h in
    rw h (rw m refl)

pub not_made : (room : Bool) (thread : ℕ) (name : List ℕ) (s : Isolate) (e : Stop) → class_object (of_class name) s ≡ Err e → class_locked room thread name s ≡ Err e
unfolding class_locked
not_made room thread name s e h = rw h refl

-- ---- what is there afterwards

-- it stands behind all others
abbrev IsMade : Result (ℕ × Isolate) Stop → Type 0
IsMade (Ok x) = x.0 < length x.1.heap.objects
IsMade (Err e) = ⊥

new_there_by : (name : List ℕ) (s t : Isolate) (object : ℕ) (lacks : Bool) → nat_lt s.heap.size (words s.heap.objects + words_needed Object 0) ≡ lacks
    → s.classes.objects name ≡ None → class_object (of_class name) s ≡ Ok (object, t) → object < length t.heap.objects
unfolding class_object new_object placed
new_there_by name s t object true f none h =
    let g = rw (none, f) at h in absurd cc
new_there_by name s t object false f none h =
    let g = rw (none, f) at h in
    let more : length (s.heap.objects ++ zeros Object 0 0 ∷ []) ≡ length s.heap.objects + 1 = length_push s.heap.objects (zeros Object 0 0) in
    subst IsMade g (omega (arith, more))

pub new_there : (name : List ℕ) (s t : Isolate) (object : ℕ) → s.classes.objects name ≡ None → class_object (of_class name) s ≡ Ok (object, t) → object < length t.heap.objects
new_there name s t object none h = new_there_by name s t object _ refl none h

pub new_monitor : (name : List ℕ) (s t : Isolate) (object : ℕ) → s.classes.objects name ≡ None → length s.heap.monitors ≡ length s.heap.objects → class_object (of_class name) s ≡ Ok (object, t)
    → slice_get t.heap.monitors object ≡ Some free
new_monitor name s t object none each h = new_monitor_by name s t object _ refl none each h

-- who owns a monitor that was put in its place
pub owner_put : (s : Isolate) (object : ℕ) (old monitor : Monitor) → slice_get s.heap.monitors object ≡ Some old → owner_in (monitor_at (with_monitor object monitor s) object) ≡ monitor.owner
owner_put s object old monitor e = ap owner_in (get_set_same s.heap.monitors object monitor old e)

pub owner_put_within : (s : Isolate) (object : ℕ) (monitor : Monitor) → object < length s.heap.monitors → owner_in (monitor_at (with_monitor object monitor s) object) ≡ monitor.owner
owner_put_within s object monitor h = owner_put s object _ monitor (slice_get-get_or s.heap.monitors object free h)
