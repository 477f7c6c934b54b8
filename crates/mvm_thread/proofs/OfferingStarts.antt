-- No start of a thread and no initialisation of a class offers a message.
use Rattle.std.specs.Prelude.{ℕ, List, [], ◌∷◌, ◌==◌, Option, Some, None, Result, Ok, codes}
use Rattle.mvm_base.specs.Answers.{◌>>=◌}
use Rattle.mvm_current.specs.Frames.{LAST, at_place, called_frame, if_room, method}
use Rattle.mvm_initialise.specs.Arguments.{main_arguments, main_locked}
use Rattle.mvm_initialise.specs.declared.arguments.MainLock.{MainLock}
use Rattle.mvm_initialise.specs.declared.arguments.MainLock.TheVariants.{Entered, Waits}
use Rattle.mvm_invoke.specs.Calls.{run_selected}
use Rattle.mvm_isolate.specs.Faults.{looked_up}
use Rattle.mvm_isolate.specs.Initialise.{begins}
use Rattle.mvm_isolate.specs.Isolate.{Isolate, stopped}
use Rattle.mvm_isolate.specs.Members.{or_verify}
use Rattle.mvm_isolate.specs.Supers.{supers_of}
use Rattle.mvm_isolate.specs.declared.stop.Stop.{Stop}
use Rattle.mvm_layout.specs.Flags.{is_static}
use Rattle.mvm_layout.specs.declared.parts.Code.{Code}
use Rattle.mvm_layout.specs.declared.parts.Member.{Member}
use Rattle.mvm_locking.specs.Monitors.{once_entered}
use Rattle.mvm_member.specs.Members.{MemberName}
use Rattle.mvm_native.specs.declared.out.Thrown.TheVariants.{StackOverflowError}
use Rattle.mvm_object.specs.Entries.{may_begin}
use Rattle.mvm_object.specs.Going.{Context, Point, Went, in_isolate}
use Rattle.mvm_starting.specs.Initialising.{initialise, initialised, initialiser_called, initialiser_framed, initialiser_of, supers_first}
use Rattle.mvm_starting.specs.Starting.{by_lock, first_room, head_in, is_synchronized, main_called, main_entered, main_of, main_started, main_synchronized, main_unlocked, run_called, run_entered, run_locked, run_started, start, start_main, start_run, started, with_arguments}
use Rattle.mvm_thread.proofs.OfferingCalls.{entered_fine}
use Rattle.mvm_thread.proofs.OfferingFree.{Fine, then_fine, if_fine, begin_fine, once_fine}

-- ---- main

by_lock_fine : (c : Context) (m : MemberName) (head : _) (p : Point) (x : MainLock × Isolate) → Fine c (by_lock c m head p x)
by_lock_fine c m head p (Entered call, s) = record { by = tt }
by_lock_fine c m head p (Waits object, s) = record { by = tt }

main_unlocked_fine : (c : Context) (m : MemberName) (head : _) (p : Point) → Fine c (main_unlocked c m head p)
unfolding main_unlocked
main_unlocked_fine c m head p = then_fine c (main_arguments c.launch.args (first_room c head p) p.isolate) (with_arguments c m head p) (λ x. record { by = tt })

main_synchronized_fine : (c : Context) (m : MemberName) (head : _) (p : Point) → Fine c (main_synchronized c m head p)
unfolding main_synchronized
main_synchronized_fine c m head p = then_fine c (main_locked c.launch.args (first_room c head p) c.thread m.class p.isolate) (by_lock c m head p) (by_lock_fine c m head p)

main_entered_fine : (c : Context) (m : MemberName) (p : Point) (head : _) → Fine c (main_entered c m p head)
main_entered_fine c m p head =
    if_fine c (is_synchronized head) (main_synchronized c m head p) (main_unlocked c m head p) (main_synchronized_fine c m head p) (main_unlocked_fine c m head p)

main_started_fine : (c : Context) (p : Point) (m : MemberName) → Fine c (main_started c p m)
unfolding main_started
main_started_fine c p m = then_fine c (head_in c.look m) (main_entered c m p) (main_entered_fine c m p)

main_called_fine : (c : Context) (p : Point) → Fine c (main_called c p)
unfolding main_called
main_called_fine c p = then_fine c (looked_up (c.look.class c.launch.main) >>= main_of) (main_started c p) (main_started_fine c p)

start_main_fine : (c : Context) (p : Point) → Fine c (start_main c p)
unfolding start_main
start_main_fine c p = once_fine c c.launch.main p (main_called c) (main_called_fine c)

-- ---- run

run_locked_fine : (c : Context) (m : MemberName) (head : _) (object : ℕ) (p : Point) → Fine c (run_locked c m head object p)
unfolding run_locked
run_locked_fine c m head object p =
    let go = λ (s : Isolate). Ok (started c m (Some object) head object (in_isolate s p)) in
    if_fine c (is_synchronized head) (once_entered c object p go) (Ok (started c m None head object p)) (entered_fine c object p go (λ s. record { by = tt })) (record { by = tt })

run_entered_fine : (c : Context) (m : MemberName) (object : ℕ) (p : Point) (head : _) → Fine c (run_entered c m object p head)
run_entered_fine c m object p head =
    if_fine c (first_room c head p) (run_locked c m head object p) (stopped StackOverflowError) (run_locked_fine c m head object p) (record { by = tt })

run_started_fine : (c : Context) (object : ℕ) (p : Point) (m : MemberName) → Fine c (run_started c object p m)
unfolding run_started
run_started_fine c object p m = then_fine c (head_in c.look m) (run_entered c m object p) (run_entered_fine c m object p)

run_called_fine : (c : Context) (p : Point) (object : ℕ) → Fine c (run_called c p object)
unfolding run_called
run_called_fine c p object = then_fine c (run_selected c.look object p.isolate) (run_started c object p) (run_started_fine c object p)

start_run_fine : (c : Context) (p : Point) → Fine c (start_run c p)
unfolding start_run
start_run_fine c p = then_fine c (or_verify c.object) (run_called c p) (run_called_fine c p)

pub start_fine : (c : Context) (p : Point) → Fine c (start c p)
unfolding start
start_fine c p = if_fine c (c.thread == 0) (start_main c p) (start_run c p) (start_main_fine c p) (start_run_fine c p)

-- ---- classes

supers_fine : (c : Context) (names : List (List ℕ)) (go : Point → Result Went Stop) → ((q : Point) → Fine c (go q)) → (p : Point) → Fine c (supers_first c names go p)
unfolding supers_first
supers_fine c [] go h p = h p
supers_fine c (name ∷ names) go h p =
    then_fine c (begins c.look (may_begin c p) c.thread name p.isolate) _ (begin_fine c name p (supers_first c names go) (supers_fine c names go h))

framed_fine : (c : Context) (class : List ℕ) (m : Member) (code : Option Code) (p : Point) → Fine c (initialiser_framed c class m code p)
framed_fine c class m (Some code) p =
    then_fine c (if_room c.launch.limits (called_frame (method class (codes "<clinit>") (codes "()V")) None code.max_locals code.max_stack 0 []) (at_place LAST p.frame ∷ p.callers)) _ (λ fs.
    record { by = tt })
framed_fine c class m None p = record { by = tt }

initialiser_fine : (c : Context) (class : List ℕ) (m : Option Member) (p : Point) → Fine c (initialiser_called c class m p)
initialiser_fine c class (Some m) p =
    if_fine c (is_static m.flags) (initialiser_framed c class m m.code p) (Ok (initialised c class p)) (framed_fine c class m m.code p) (record { by = tt })
initialiser_fine c class None p = record { by = tt }

pub initialise_fine : (c : Context) (class : List ℕ) (p : Point) → Fine c (initialise c class p)
unfolding initialise
initialise_fine c class p =
    if_fine c (p.frame.body.pc == LAST) (Ok (initialised c class p))
    (looked_up (c.look.class class) >>= λ found. supers_first c (supers_of found) (initialiser_called c class (initialiser_of found.file)) p) (record { by = tt })
    (then_fine c (looked_up (c.look.class class)) _ (λ found.
    supers_fine c (supers_of found) (initialiser_called c class (initialiser_of found.file)) (initialiser_fine c class (initialiser_of found.file)) p))
