-- A call offers a message only where no other thread sends on its link; monitors and returns offer none.
use Rattle.std.specs.Prelude.{ℕ, List, ◌∷◌, Bool, true, false, max, nat_lt, if◌then◌else◌, Option, Some, None, Result, Ok}
use Rattle.mvm_base.specs.Answers.{◌>>=◌}
use Rattle.mvm_base.specs.declared.value.Kind.{Kind}
use Rattle.mvm_base.specs.declared.value.Kind.TheVariants as kind
use Rattle.mvm_base.specs.declared.value.Word.{Word}
use Rattle.mvm_builtin.specs.Natives.{native_method}
use Rattle.mvm_builtin.specs.declared.natives.Native.{Native}
use Rattle.mvm_current.specs.Frames.{has_room, popped, without}
use Rattle.mvm_current.specs.Values.{not_null}
use Rattle.mvm_history.specs.declared.end.LimitKind.TheVariants.{Threads}
use Rattle.mvm_initialise.specs.Locks.{entered_if}
use Rattle.mvm_initialise.specs.declared.locks.Lock.{Lock}
use Rattle.mvm_initialise.specs.declared.locks.Lock.TheVariants.{Entered, Waits}
use Rattle.mvm_isolate.specs.Isolate.{Isolate, after_native, machine_in, new_object, stopped}
use Rattle.mvm_isolate.specs.Members.{or_verify}
use Rattle.mvm_isolate.specs.Monitors.{monitor_at}
use Rattle.mvm_isolate.specs.Natives.{all_suit, native_called}
use Rattle.mvm_isolate.specs.Thrown.{THREAD}
use Rattle.mvm_isolate.specs.declared.stop.Stop.{Stop}
use Rattle.mvm_layout.specs.Flags.{has_flag, is_static}
use Rattle.mvm_layout.specs.declared.flags.TheConstants as flag
use Rattle.mvm_member.specs.Members.{MemberName}
use Rattle.mvm_native.specs.Calls.{called as native_called_on}
use Rattle.mvm_native.specs.Needs.{fits}
use Rattle.mvm_native.specs.declared.out.Act.{Act as ActOf}
use Rattle.mvm_native.specs.declared.out.Act.TheVariants.{Offer, Receive, Ask}
use Rattle.mvm_native.specs.declared.out.Out.{Out}
use Rattle.mvm_native.specs.declared.out.Out.TheVariants as out
use Rattle.mvm_native.specs.declared.out.Thrown.TheVariants.{IncompatibleClassChangeError, StackOverflowError, VerifyError}
use Rattle.mvm_locking.specs.Monitors.{monitor_enter, monitor_exit, monitor_exited, must_own, once_entered, or_waits, unlocked, with_entered}
use Rattle.mvm_locking.specs.Returns.{popped_result, return_place, return_value, returned_from, returned_to}
use Rattle.mvm_object.specs.Going.{Context, Point, Went, does, going_on, in_isolate, joining, limited, ready, starts}
use Rattle.mvm_invoke.specs.Calls.{call_target, called, called_by, entered_frame, framed, head_in, in_lock, interface_selected, invoke_interface, invoke_special, invoke_static, invoke_virtual, lock_of, locked_frame, native_or_none, not_private, passed_by, received_by, special_method, static_called, virtual_selected}
use Rattle.mvm_invoke.specs.NativeCalls.{acting, answered, current_object, going, joining_thread, leaving, must_suit, native_call, native_done, off, parameter_types, result_fits, returning, starting_thread, with_thread_number}
use Rattle.mvm_thread.proofs.OfferingFree.{Fine, Free, FreeAct, then_fine, if_fine, on_fine, once_fine}
use Rattle.mvm_thread.proofs.OfferingNatives.{called_free}

-- ---- monitors

waits_fine : (c : Context) (object : ℕ) (p : Point) (go : Isolate → Result Went Stop) → ((s : Isolate) → Fine c (go s)) → (entered : Option Isolate) → Fine c (or_waits c object p go entered)
waits_fine c object p go h (Some s) = h s
waits_fine c object p go h None = record { by = tt }

pub entered_fine : (c : Context) (object : ℕ) (p : Point) (go : Isolate → Result Went Stop) → ((s : Isolate) → Fine c (go s)) → Fine c (once_entered c object p go)
unfolding once_entered
entered_fine c object p go h =
    then_fine c (or_verify (monitor_at p.isolate object)) _ (λ monitor.
    waits_fine c object p go h (with_entered object p.isolate (entered_if c.thread monitor monitor.owner)))

pub monitor_enter_fine : (c : Context) (next : ℕ) (p : Point) → Fine c (monitor_enter c next p)
unfolding monitor_enter
monitor_enter_fine c next p =
    then_fine c (popped kind.Ref p.frame) _ (λ x. then_fine c (not_null x.0) _ (λ object.
    entered_fine c object p (λ s. Ok (going_on c next x.1 (in_isolate s p))) (λ s. on_fine c next x.1 (in_isolate s p))))

pub monitor_exit_fine : (c : Context) (next : ℕ) (p : Point) → Fine c (monitor_exit c next p)
unfolding monitor_exit
monitor_exit_fine c next p =
    then_fine c (popped kind.Ref p.frame) _ (λ x. then_fine c (not_null x.0) _ (λ object.
    then_fine c (must_own c.thread object p.isolate) _ (λ owns. on_fine c next x.1 (in_isolate (monitor_exited object p.isolate) p))))

-- ---- returns

returned_fine : (c : Context) (kind : Option Kind) (next : Option ℕ) (p : Point) → Fine c (returned_from c kind next p)
unfolding returned_from
returned_fine c kind next p =
    then_fine c (popped_result kind p.frame) _ (λ value. then_fine c (unlocked c.thread p.frame.lock p.isolate) _ (λ s.
    then_fine c (returned_to value next p.callers) _ (λ fs. record { by = tt })))

pub return_fine : (c : Context) (kind : Option Kind) (p : Point) → Fine c (return_value c kind p)
unfolding return_value
return_fine c kind p = then_fine c (return_place c.look kind p.frame p.callers) _ (λ next. returned_fine c kind next p)

-- ---- native methods

acting_fine : (c : Context) (act : ActOf) (p : Point) → FreeAct c.launch c.thread c.links act → Fine c (Ok (acting c act p))
acting_fine c (Offer link message) p f = record { by = f }
acting_fine c (Receive link) p f = record { by = tt }
acting_fine c (Ask ask) p f = record { by = tt }

returning_fine : (c : Context) (next : ℕ) (value : Option Word) (p : Point) → Fine c (Ok (returning c next value p))
returning_fine c next (Some word) p = record { by = tt }
returning_fine c next None p = record { by = tt }

either_fine : (c : Context) (b : Bool) (w v : Went) → Fine c (Ok w) → Fine c (Ok v) → Fine c (Ok (if b then w else v))
either_fine c true w v f g = f
either_fine c false w v f g = g

starting_fine : (c : Context) (next object : ℕ) (p : Point) → Fine c (Ok (starting_thread c next object p))
starting_fine c next object p =
    either_fine c (nat_lt c.threads c.launch.limits.threads) (going c next (starts object) (in_isolate (with_thread_number object c.threads p.isolate) p)) (leaving c (limited Threads) p)
    (record { by = tt }) (record { by = tt })

joining_fine : (c : Context) (next thread : ℕ) (p : Point) → Fine c (Ok (joining_thread c next thread p))
joining_fine c next thread p =
    either_fine c (c.has_ended thread) (going c next (does ready) p) (leaving c (does (joining thread)) p) (record { by = tt }) (record { by = tt })

current_fine : (c : Context) (next : ℕ) (object : Option ℕ) (p : Point) → Fine c (current_object c next object p)
current_fine c next (Some object) p = record { by = tt }
current_fine c next None p = then_fine c (new_object THREAD 2 p.isolate) _ (λ x. record { by = tt })

answered_fine : (c : Context) (next : ℕ) (p : Point) (answer : Out) → Free c.launch c.thread c.links answer → Fine c (answered c next p answer)
answered_fine c next p (out.Value value) f = returning_fine c next value p
answered_fine c next p (out.Throw thrown) f = record { by = tt }
answered_fine c next p (out.Act act) f = acting_fine c act p f
answered_fine c next p (out.Start object) f = starting_fine c next object p
answered_fine c next p (out.Join thread) f = joining_fine c next thread p
answered_fine c next p (out.Wait object) f = record { by = tt }
answered_fine c next p (out.Notify object all) f = record { by = tt }
answered_fine c next p out.Current f = current_fine c next c.object p
answered_fine c next p (out.Exit status) f = record { by = tt }
answered_fine c next p (out.Limit kind) f = record { by = tt }

done_by : (c : Context) (b : Bool) (answer : Out) (s : Isolate) (go : Out × Isolate → Result Went Stop)
    → ((t : Isolate) → Fine c (go (answer, t))) → Fine c ((if b then Ok (answer, s) else stopped VerifyError) >>= go)
done_by c true answer s go h = h s
done_by c false answer s go h = record { by = tt }

done_fine : (c : Context) (native : Native) (x : _) (next : ℕ) (p : Point) → Fine c (native_done c native x next p)
unfolding native_done native_called
done_fine c native x next p =
    let m = machine_in c.launch c.thread c.links p.isolate in
    let y = native_called_on native x.arguments m in
    done_by c (fits native x.arguments m) y.0 (after_native y.1 p.isolate) (λ z. answered c next (off x.slots (in_isolate z.1 p)) z.0)
    (λ t. answered_fine c next (off x.slots (in_isolate t p)) y.0 (called_free native x.arguments m))

native_fine : (c : Context) (native : Native) (static : Bool) (class : List ℕ) (x : _) (next : ℕ) (p : Point) → Fine c (native_call c native static class x next p)
unfolding native_call
native_fine c native static class x next p =
    then_fine c (result_fits x.shape.result (without x.slots p.frame)) _ (λ fits.
    then_fine c (must_suit (all_suit c.look p.isolate (parameter_types static class x.shape) x.arguments)) _ (λ suits. done_fine c native x next p))

-- ---- calls

in_lock_fine : (c : Context) (m : MemberName) (size : _) (slots : ℕ) (p : Point) (y : Lock × Isolate) → Fine c (Ok (in_lock c m size slots p y))
in_lock_fine c m size slots p (Entered object, s) = record { by = tt }
in_lock_fine c m size slots p (Waits object, s) = record { by = tt }

locked_fine : (c : Context) (m : MemberName) (flags : ℕ) (size : _) (x : _) (p : Point) → Fine c (locked_frame c m flags size x p)
unfolding locked_frame
locked_fine c m flags size x p =
    if_fine c (has_flag flag.SYNCHRONIZED flags) (lock_of c.thread (is_static flags) m.class x.arguments p.isolate >>= λ y. Ok (in_lock c m size x.slots p y)) (Ok (framed c m size None x.slots p))
    (then_fine c (lock_of c.thread (is_static flags) m.class x.arguments p.isolate) _ (λ y. in_lock_fine c m size x.slots p y)) (record { by = tt })

frame_fine : (c : Context) (m : MemberName) (flags : ℕ) (size : _) (x : _) (p : Point) → Fine c (entered_frame c m flags size x p)
unfolding entered_frame
frame_fine c m flags size x p =
    if_fine c (has_room c.launch.limits (max size.locals x.slots) size.depth (p.frame ∷ p.callers)) (locked_frame c m flags size x p) (stopped StackOverflowError)
    (locked_fine c m flags size x p) (record { by = tt })

native_or_none_fine : (c : Context) (m : MemberName) (head : _) (x : _) (next : ℕ) (p : Point) (native : Option Native) → Fine c (native_or_none c m head x next p native)
native_or_none_fine c m head x next p (Some native) = native_fine c native (is_static head.flags) m.class x next p
native_or_none_fine c m head x next p None = record { by = tt }

called_by_fine : (c : Context) (m : MemberName) (head : _) (x : _) (next : ℕ) (p : Point) (size : Option _) → Fine c (called_by c m head x next p size)
called_by_fine c m head x next p (Some size) = frame_fine c m head.flags size x p
called_by_fine c m head x next p None = native_or_none_fine c m head x next p (native_method m.class m.name m.desc)

called_fine : (c : Context) (m : MemberName) (x : _) (next : ℕ) (p : Point) → Fine c (called c m x next p)
unfolding called
called_fine c m x next p = then_fine c (head_in c.look m) _ (λ head. called_by_fine c m head x next p head.size)

static_called_fine : (c : Context) (m : MemberName) (next : ℕ) (p : Point) → Fine c (static_called c m next p)
unfolding static_called
static_called_fine c m next p = then_fine c (passed_by true m.desc p.frame.body.operands.slots) _ (λ x. called_fine c m x next p)

pub invoke_static_fine : (c : Context) (index next : ℕ) (p : Point) → Fine c (invoke_static c index next p)
unfolding invoke_static
invoke_static_fine c index next p =
    then_fine c (call_target c.look true index p.frame) _ (λ t. once_fine c t.1.class p (static_called c t.1 next) (static_called_fine c t.1 next))

pub invoke_virtual_fine : (c : Context) (index next : ℕ) (p : Point) → Fine c (invoke_virtual c index next p)
unfolding invoke_virtual
invoke_virtual_fine c index next p =
    then_fine c (call_target c.look false index p.frame) _ (λ t.
    then_fine c (received_by c.look VerifyError t.1 p.frame.body.operands.slots p.isolate) _ (λ x.
    then_fine c (virtual_selected c.look t.0 x.receiver p.isolate) _ (λ m. called_fine c m x.passes next p)))

pub invoke_interface_fine : (c : Context) (index next : ℕ) (p : Point) → Fine c (invoke_interface c index next p)
unfolding invoke_interface
invoke_interface_fine c index next p =
    then_fine c (call_target c.look false index p.frame >>= not_private) _ (λ t.
    then_fine c (received_by c.look IncompatibleClassChangeError t.1 p.frame.body.operands.slots p.isolate) _ (λ x.
    then_fine c (interface_selected c.look t.0 x.receiver p.isolate) _ (λ m. called_fine c m x.passes next p)))

pub invoke_special_fine : (c : Context) (index next : ℕ) (p : Point) → Fine c (invoke_special c index next p)
unfolding invoke_special
invoke_special_fine c index next p =
    then_fine c (call_target c.look false index p.frame) _ (λ t.
    then_fine c (received_by c.look VerifyError t.1 p.frame.body.operands.slots p.isolate) _ (λ x.
    then_fine c (special_method c.look index t p.frame) _ (λ m. called_fine c m x.passes next p)))
