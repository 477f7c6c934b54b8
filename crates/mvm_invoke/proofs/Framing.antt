-- The frame of a method that is called, and what comes of it, by names.
use Rattle.std.proofs.Common.{◌≡◌, ℕ, List, ◌∷◌, Bool, true, false, max, Option, Some, None, Result, Ok, Err, refl, sym, ap, ◌∙◌}
use Rattle.std.specs.Prelude.{if◌then◌else◌, IsSome}
use Rattle.mvm_base.specs.Answers.{◌>>=◌}
use Rattle.mvm_base.specs.declared.value.Word.{Word}
use Rattle.mvm_frame.specs.Parts.{StackParts}
use Rattle.mvm_frame.specs.declared.key.FrameKey.{FrameKey}
use Rattle.mvm_history.specs.declared.launch.Launch.{Launch}
use Rattle.mvm_history.specs.declared.limits.Limits.{Limits}
use Rattle.mvm_initialise.specs.declared.locks.Lock.{Lock}
use Rattle.mvm_layout.specs.Flags.{has_flag}
use Rattle.mvm_layout.specs.declared.flags.TheConstants as flag
use Rattle.mvm_member.specs.Members.{MemberName}
use Rattle.mvm_native.specs.declared.out.Thrown.TheVariants.{StackOverflowError}
use Rattle.mvm_isolate.specs.Isolate.{Isolate, stopped}
use Rattle.mvm_isolate.specs.Numbered.{Numbered, named}
use Rattle.mvm_isolate.specs.declared.stop.Stop.{Stop}
use Rattle.mvm_current.specs.Frames.{Frame, Runs, called_frame, has_room, if_room, method, without}
use Rattle.mvm_current.specs.Keys.{callers_named, frames_named, runs_of, top_named}
use Rattle.mvm_current.proofs.Entering.{frames_are}
use Rattle.mvm_object.specs.Coming.{point_of}
use Rattle.mvm_object.specs.Going.{After, Context, Point, Went, does, ready}
use Rattle.mvm_layout.specs.Flags.{is_static}
use Rattle.mvm_invoke.specs.Calls.{entered_frame, framed, in_lock, lock_of, locked_frame}
use Rattle.mvm_invoke.specs.Leaving.{after_named, left_named}
use Rattle.mvm_invoke.specs.declared.heads.Size.{Size}
use Rattle.mvm_invoke.specs.declared.left.After.{After as LeftAfter}
use Rattle.mvm_invoke.specs.declared.left.After.TheVariants as left
use Rattle.mvm_invoke.specs.declared.left.Left.{Left}
use Rattle.mvm_invoke.specs.declared.passed.Passed.{Passed}
use Rattle.mvm_object.specs.declared.state.ThreadState.TheVariants.{Ready}

-- ---- what is left

pub went_same : (s : Isolate) (f g : List Frame) (o p : Option ℕ) (a b : After) → f ≡ g → o ≡ p → a ≡ b → ◌≡◌ {A = Went} (record { isolate = s; frames = f; object = o; after = a }) (record { isolate = s; frames = g; object = p; after = b })
went_same s f g o p a b e h k = rw (e, h, k) refl

-- ---- the frame

made_if : (b : Bool) (x y : List Frame) → (if b then Ok x else stopped StackOverflowError) ≡ Ok y → x ≡ y
made_if true x y e = cc
made_if false x y e = absurd cc

pub framed_named : (c : Context) (n : Numbered) (m : MemberName) (size : Size) (key : FrameKey) (slots : ℕ) (old new : StackParts) (l : Left) (object : Option ℕ)
    → if_room n.env.launch.limits (called_frame (runs_of n key 0) key.lock size.locals size.depth slots old.operands.slots) (without slots (top_named n old) ∷ callers_named n old) ≡ Ok (frames_named n new)
    → runs_of n key 0 ≡ method m.class m.name m.desc → c.object ≡ object → l.object ≡ object → l.after ≡ left.Does Ready
    → framed c m size key.lock slots (point_of n old) ≡ left_named n new l
framed_named c n m size key slots old new l object e runs o p a =
    let below = without slots (top_named n old) ∷ callers_named n old in
    let frames = made_if _ (called_frame (runs_of n key 0) key.lock size.locals size.depth slots old.operands.slots ∷ below) (frames_named n new) e in
    went_same (named n) _ (frames_named n new) c.object l.object (does ready) (after_named n l.after)
    (ap (λ (r : Runs). called_frame r key.lock size.locals size.depth slots old.operands.slots ∷ below) (sym runs) ∙ frames)
    (o ∙ sym p)
    (sym (ap (after_named n) a))

-- ---- its monitor

pub unlocked : (c : Context) (m : MemberName) (flags : ℕ) (size : Size) (x : Passed) (p : Point) → false ≡ has_flag flag.SYNCHRONIZED flags → locked_frame c m flags size x p ≡ Ok (framed c m size None x.slots p)
unfolding locked_frame
unlocked c m flags size x p e = rw (← e) refl

lock_same : (t u : ℕ) (a b : Bool) (n m : List ℕ) (v w : List Word) (s : Isolate) → t ≡ u → a ≡ b → n ≡ m → v ≡ w → lock_of t a n v s ≡ lock_of u b m w s
lock_same t u a b n m v w s e h k l = rw (e, h, k, l) refl

by_lock : (c : Context) (m : MemberName) (flags : ℕ) (size : Size) (x : Passed) (p : Point) (r : Result (Lock × Isolate) Stop) → true ≡ has_flag flag.SYNCHRONIZED flags → lock_of c.thread (is_static flags) m.class x.arguments p.isolate ≡ r
    → locked_frame c m flags size x p ≡ (r >>= λ y. Ok (in_lock c m size x.slots p y))
unfolding locked_frame
by_lock c m flags size x p r e h = rw (← e, h) refl

pub locked : (c : Context) (m : MemberName) (flags : ℕ) (size : Size) (x : Passed) (p : Point) (r : Result (Lock × Isolate) Stop) (thread : ℕ) (static : Bool) (class : List ℕ) (words : List Word)
    → true ≡ has_flag flag.SYNCHRONIZED flags → c.thread ≡ thread → is_static flags ≡ static → m.class ≡ class → x.arguments ≡ words → lock_of thread static class words p.isolate ≡ r
    → locked_frame c m flags size x p ≡ (r >>= λ y. Ok (in_lock c m size x.slots p y))
locked c m flags size x p r thread static class words e t a k w h =
    by_lock c m flags size x p r e (lock_same c.thread thread (is_static flags) static m.class class x.arguments words p.isolate t a k w ∙ h)

-- ---- its room

pub some_frames : (n : Numbered) (s : StackParts) (key : Option FrameKey) → s.rest.below.key ≡ key → IsSome key → frames_named n s ≡ top_named n s ∷ callers_named n s
some_frames n s (Some key) e some = frames_are n s key e
some_frames n s None e some = absurd cc

room_at : (n : Numbered) (s : StackParts) (launch : Launch) (locals depth : ℕ) → launch ≡ n.env.launch → IsSome s.rest.below.key → has_room launch.limits locals depth (top_named n s ∷ callers_named n s) ≡ has_room n.env.launch.limits locals depth (frames_named n s)
room_at n s launch locals depth e some = ap (λ (l : Launch). has_room l.limits locals depth (top_named n s ∷ callers_named n s)) e ∙ ap (has_room n.env.launch.limits locals depth) (sym (some_frames n s s.rest.below.key refl some))

by_room : (c : Context) (m : MemberName) (flags : ℕ) (size : Size) (x : Passed) (p : Point) (b : Bool) → has_room c.launch.limits (max size.locals x.slots) size.depth (p.frame ∷ p.callers) ≡ b
    → entered_frame c m flags size x p ≡ (if b then locked_frame c m flags size x p else stopped StackOverflowError)
unfolding entered_frame
by_room c m flags size x p b e = rw e refl

pub entered_by : (c : Context) (n : Numbered) (m : MemberName) (flags : ℕ) (size : Size) (x : Passed) (s : StackParts) (locals : ℕ) (b : Bool) → c.launch ≡ n.env.launch → IsSome s.rest.below.key → locals ≡ max size.locals x.slots
    → b ≡ has_room n.env.launch.limits locals size.depth (frames_named n s)
    → entered_frame c m flags size x (point_of n s) ≡ (if b then locked_frame c m flags size x (point_of n s) else stopped StackOverflowError)
entered_by c n m flags size x s locals b e some wide is =
    by_room c m flags size x (point_of n s) b
    (ap (λ (l : ℕ). has_room c.launch.limits l size.depth (top_named n s ∷ callers_named n s)) (sym wide) ∙ room_at n s c.launch locals size.depth e some ∙ sym is)
