-- What the answers of native methods mean, by names, where a test or a call told what the definition asks.
use Rattle.std.proofs.Common.{◌≡◌, ℕ, List, Bool, Option, Some, None, Result, Ok, Err, refl, sym, ap, ◌∙◌}
use Rattle.std.specs.Prelude.{if◌then◌else◌, nat_lt}
use Rattle.mvm_base.specs.declared.value.Word.TheVariants.{Ref}
use Rattle.mvm_frame.specs.Parts.{StackParts}
use Rattle.mvm_history.specs.declared.end.LimitKind.TheVariants.{Threads}
use Rattle.mvm_history.specs.declared.launch.Launch.{Launch}
use Rattle.mvm_locking.specs.Monitors.{count_in, monitor_freed}
use Rattle.mvm_isolate.specs.Isolate.{Isolate, new_object}
use Rattle.mvm_isolate.specs.Monitors.{monitor_at}
use Rattle.mvm_isolate.specs.Numbered.{Numbered, named}
use Rattle.mvm_isolate.specs.Sound.{Grows}
use Rattle.mvm_isolate.specs.Thrown.{THREAD}
use Rattle.mvm_isolate.specs.declared.stop.Stop.{Stop}
use Rattle.mvm_current.specs.Keys.{AreKeys}
use Rattle.mvm_object.specs.Coming.{point_of}
use Rattle.mvm_object.specs.Going.{Context, Point, Went, does, in_isolate, joining, limited, ready, starts, waiting}
use Rattle.mvm_invoke.specs.Leaving.{IsTold, left_named}
use Rattle.mvm_invoke.specs.NativeCalls.{current_object, going, joining_thread, leaving, off, returning, starting_thread, waiting_on, with_thread_number}
use Rattle.mvm_invoke.specs.declared.left.Left.{Left}
use Rattle.mvm_invoke.specs.declared.left.Told.{Told}
use Rattle.mvm_invoke.proofs.Telling.{point_grows}

pub joining_by : (c : Context) (next thread : ℕ) (p : Point) (b : Bool) → c.has_ended thread ≡ b → joining_thread c next thread p ≡ (if b then going c next (does ready) p else leaving c (does (joining thread)) p)
joining_by c next thread p b e = rw e refl

-- where the isolate is another one, and all else is as it was
moved : (old new : Numbered) (s : StackParts) (x : Isolate) → Grows old new → AreKeys old s → named new ≡ x → in_isolate x (point_of old s) ≡ point_of new s
moved old new s x g keys e = ap (λ (y : Isolate). in_isolate y (point_of old s)) (sym e) ∙ sym (point_grows old new s g keys)

pub waiting_by : (c : Context) (object count slots : ℕ) (old new : Numbered) (s : StackParts) → Grows old new → AreKeys old s → count ≡ count_in (monitor_at (named old) object) → named new ≡ monitor_freed object (named old)
    → waiting_on c object (off slots (point_of old s)) ≡ leaving c (does (waiting object count)) (off slots (point_of new s))
waiting_by c object count slots old new s g keys e h =
    ap (λ (k : ℕ). leaving c (does (waiting object k)) (off slots (in_isolate (monitor_freed object (named old)) (point_of old s)))) (sym e)
    ∙ ap (λ (p : Point). leaving c (does (waiting object count)) (off slots p)) (moved old new s (monitor_freed object (named old)) g keys h)

by_test : (c : Context) (next object : ℕ) (p : Point) (b : Bool) → nat_lt c.threads c.launch.limits.threads ≡ b
    → starting_thread c next object p ≡ (if b then going c next (starts object) (in_isolate (with_thread_number object c.threads p.isolate) p) else leaving c (limited Threads) p)
by_test c next object p b e = rw e refl

pub starting_by : (c : Context) (n : Numbered) (told : Told) → IsTold c n told → (next object : ℕ) (p : Point) (b : Bool) → b ≡ nat_lt told.threads n.env.launch.limits.threads
    → starting_thread c next object p ≡ (if b then going c next (starts object) (in_isolate (with_thread_number object c.threads p.isolate) p) else leaving c (limited Threads) p)
starting_by c n told is next object p b e =
    by_test c next object p b (ap (λ (k : ℕ). nat_lt k c.launch.limits.threads) is.threads ∙ ap (λ (l : Launch). nat_lt told.threads l.limits.threads) is.launch ∙ sym e)

pub starts_by : (c : Context) (next object slots threads : ℕ) (old new : Numbered) (s : StackParts) → Grows old new → AreKeys old s → c.threads ≡ threads → named new ≡ with_thread_number object threads (named old)
    → going c next (starts object) (in_isolate (with_thread_number object c.threads (named old)) (off slots (point_of old s))) ≡ going c next (starts object) (off slots (point_of new s))
starts_by c next object slots threads old new s g keys t e =
    ap (λ (k : ℕ). going c next (starts object) (off slots (in_isolate (with_thread_number object k (named old)) (point_of old s)))) t
    ∙ ap (λ (p : Point). going c next (starts object) (off slots p)) (moved old new s (with_thread_number object threads (named old)) g keys e)

pub current_some : (c : Context) (next : ℕ) (p : Point) (o : Option ℕ) (object : ℕ) → o ≡ Some object → current_object c next o p ≡ Ok (returning c next (Some (Ref object)) p)
current_some c next p o object e = rw e refl

abbrev its : ℕ → Went → Went
its object w = record w { object = Some object }

abbrev made_at : Context → ℕ → ℕ → Point → ℕ → Isolate → Went
made_at c next thread p object s = its object (returning c next (Some (Ref object)) (in_isolate (with_thread_number object thread s) p))

made : (c : Context) (next : ℕ) (p : Point) (o : Option ℕ) (object : ℕ) (s : Isolate) → o ≡ None → new_object THREAD 2 p.isolate ≡ Ok (object, s) → current_object c next o p ≡ Ok (made_at c next c.thread p object s)
made c next p o object s e h = rw (e, h) refl

pub current_new : (c : Context) (next slots : ℕ) (old mid new : Numbered) (s t : StackParts) (object thread : ℕ) (class : List ℕ) (l : Left) → c.object ≡ None → class ≡ THREAD → new_object class 2 (named old) ≡ Ok (object, named mid)
    → named new ≡ with_thread_number object thread (named mid) → c.thread ≡ thread → Grows old new → AreKeys old s → returning c next (Some (Ref object)) (off slots (point_of new s)) ≡ left_named new t l
    → current_object c next c.object (off slots (point_of old s)) ≡ Ok (left_named new t (record { object = Some object; after = l.after }))
current_new c next slots old mid new s t object thread class l o k h e u g keys done =
    made c next (off slots (point_of old s)) c.object object (named mid) o (ap (λ (x : List ℕ). new_object x 2 (named old)) (sym k) ∙ h)
    ∙ ap (λ (x : ℕ). Ok (made_at c next x (off slots (point_of old s)) object (named mid))) u
    ∙ ap (λ (p : Point). Ok (its object (returning c next (Some (Ref object)) (off slots p)))) (moved old new s (with_thread_number object thread (named mid)) g keys e)
    ∙ ap (λ (w : Went). Ok (its object w)) done
