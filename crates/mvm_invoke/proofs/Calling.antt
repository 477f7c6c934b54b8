-- What is left of a call, from where its thread was.
use Rattle.std.proofs.Common.{◌≡◌, ℕ, List, ◌∷◌, Option, Some, Result, Ok, Err, refl, sym, ap, subst, ◌∙◌}
use Rattle.std.specs.Prelude.{◌≢◌, IsSome, OnErr}
use Rattle.mvm_base.specs.Answers.{◌>>=◌}
use Rattle.mvm_base.specs.declared.value.Word.{Word}
use Rattle.mvm_builtin.specs.declared.natives.Native.{Native}
use Rattle.mvm_frame.specs.Parts.{StackParts}
use Rattle.mvm_frame.specs.declared.key.FrameKey.{FrameKey}
use Rattle.mvm_member.specs.Members.{MemberName}
use Rattle.mvm_native.specs.declared.out.Out.{Out}
use Rattle.mvm_isolate.specs.Faults.{looked_up}
use Rattle.mvm_isolate.specs.Isolate.{Isolate}
use Rattle.mvm_isolate.specs.Look.{Look}
use Rattle.mvm_isolate.specs.Members.{method_in}
use Rattle.mvm_isolate.specs.Natives.{native_called}
use Rattle.mvm_isolate.specs.Numbered.{Numbered, name_at, named}
use Rattle.mvm_isolate.specs.Sound.{Grows}
use Rattle.mvm_isolate.specs.declared.stop.Stop.{Stop}
use Rattle.mvm_current.specs.Frames.{method}
use Rattle.mvm_current.specs.Keys.{callers_named, frames_named, runs_of, top_named, AreKeys, IsKey, RunsMethod}
use Rattle.mvm_current.specs.declared.key.TheConstants.{NO_METHOD}
use Rattle.mvm_current.proofs.Called.{runs_as}
use Rattle.mvm_object.specs.Beginning.{Begins, IsBegun}
use Rattle.mvm_object.specs.Entries.{once_initialised}
use Rattle.mvm_object.specs.Coming.{doing_named, point_of, went_of}
use Rattle.mvm_object.specs.Going.{does, in_isolate, Context, Point, Went}
use Rattle.mvm_object.specs.declared.initialised.Once.{Once}
use Rattle.mvm_object.specs.declared.initialised.Once.TheVariants.{Ends, Goes}
use Rattle.mvm_object.specs.declared.state.ThreadState.{ThreadState}
use Rattle.mvm_invoke.specs.Calls.{called, head_in}
use Rattle.mvm_invoke.specs.Leaving.{after_named, left_named, IsTold, Leaves}
use Rattle.mvm_invoke.specs.NativeCalls.{answered, native_done, off}
use Rattle.mvm_invoke.specs.declared.left.After.TheVariants as left
use Rattle.mvm_invoke.specs.declared.left.Left.{Left}
use Rattle.mvm_invoke.specs.declared.left.Told.{Told}
use Rattle.mvm_invoke.specs.declared.passed.Passed.{Passed}
use Rattle.mvm_invoke.proofs.Framing.{some_frames, went_same}
use Rattle.mvm_invoke.proofs.Telling.{point_grows, point_stays}

-- by names the isolate is as it was
pub leaves_at : (f : Point → Result Went Stop) (r : Result Left Stop) (old mid new : Numbered) (s t : StackParts)
    → Grows old mid → AreKeys old s → named mid ≡ named old → Leaves r (f (point_of mid s)) new t → Leaves r (f (point_of old s)) new t
leaves_at f r old mid new s t g keys e is = subst (λ (p : Point). Leaves r (f p) new t) (point_stays old mid s g keys e) is

-- one step, and what is left from there
pub then_leaves : {A : Type 0} (found : Result A Stop) (value : A) (f : A → Result Went Stop) (r : Result Left Stop) (n : Numbered) (s : StackParts)
    → found ≡ Ok value → Leaves r (f value) n s → Leaves r (found >>= f) n s
then_leaves {A} found value f r n s e is = subst (λ (x : Result A Stop). Leaves r (x >>= f) n s) (sym e) is

-- what is as it was after an error, and was so before
pub on_err_then : (r : Result Left Stop) (A B : Type 0) → OnErr r A → (A → B) → OnErr r B
on_err_then (Ok l) A B a f = tt
on_err_then (Err stop) A B a f = f a

pub on_err_both : (r : Result Left Stop) (A B C : Type 0) → OnErr r A → OnErr r B → (A → B → C) → OnErr r C
on_err_both (Ok l) A B C a b f = tt
on_err_both (Err stop) A B C a b f = f a b

-- the class that declares the method is not found
pub called_fault : (c : Context) (look : Look) (m : MemberName) (class : List ℕ) (x : Passed) (next : ℕ) (p : Point) (stop : Stop)
    → c.look ≡ look → class ≡ m.class → looked_up (look.class class) ≡ Err stop → called c m x next p ≡ Err stop
unfolding called head_in method_in
called_fault c look m class x next p stop e own h =
    let k : looked_up (look.class m.class) ≡ Err stop = ap (λ (name : List ℕ). looked_up (look.class name)) (sym own) ∙ h in rw (e, k) refl

-- ---- the class of a key

abbrev with_key : FrameKey → StackParts → StackParts
with_key key s = record s { rest = record s.rest { below = record s.rest.below { key = Some key } } }

class_same : (a b c x y z : List ℕ) → method a b c ≡ method x y z → a ≡ x
class_same a b c x y z e = cc

-- it is the class of the method that a frame of the key runs
pub key_class : (n : Numbered) (s : StackParts) (key : FrameKey) (class name desc : List ℕ) → AreKeys n s → IsKey n key → key.method ≢ NO_METHOD → ((pc : ℕ) → runs_of n key pc ≡ method class name desc) → name_at n key.mirror ≡ class
key_class n s key class name desc keys is other runs =
    let x = runs_as n (with_key key s) key refl other (record { top = is; callers = keys.callers }) in
    x.class ∙ sym (class_same class name desc x.has.names.class x.has.names.name x.has.names.desc (sym (runs s.rest.pc) ∙ x.runs))

-- ---- a class that is to be initialised first

-- it is, so the method is called
pub initialised_goes : (c : Context) (class own : List ℕ) (p : Point) (go : Point → Result Went Stop) (once : Once) (mirror : ℕ) (r : Result Left Stop) (mid new : Numbered) (s t : StackParts) (o : Option ℕ)
    → class ≡ own → once ≡ Goes mirror → Begins (Ok once) (once_initialised c class p go) go mid s o → Leaves r (go (point_of mid s)) new t → Leaves r (once_initialised c own p go) new t
initialised_goes c class own p go once mirror r mid new s t o e h begins is =
    let k : once_initialised c class p go ≡ go (point_of mid s) = subst (λ (x : Once). Begins (Ok x) (once_initialised c class p go) go mid s o) h begins in
    subst (λ (x : Result Went Stop). Leaves r x new t) (sym (ap (λ (name : List ℕ). once_initialised c name p go) (sym e) ∙ k)) is

-- it is not yet
pub initialised_ends : (c : Context) (class own : List ℕ) (p : Point) (go : Point → Result Went Stop) (once : Once) (state : ThreadState) (n : Numbered) (s : StackParts) (o : Option ℕ) (l : Left)
    → class ≡ own → once ≡ Ends state → Begins (Ok once) (once_initialised c class p go) go n s c.object → IsSome s.rest.below.key → c.object ≡ o → l.object ≡ o → l.after ≡ left.Does state
    → once_initialised c own p go ≡ Ok (left_named n s l)
initialised_ends c class own p go once state n s o l e h begins some told k a =
    let went : once_initialised c class p go ≡ Ok (went_of n s c.object (doing_named n state)) = subst (λ (x : Once). Begins (Ok x) (once_initialised c class p go) go n s c.object) h begins in
    ap (λ (name : List ℕ). once_initialised c name p go) (sym e) ∙ went
    ∙ ap Ok (went_same (named n) (top_named n s ∷ callers_named n s) (frames_named n s) c.object l.object (does (doing_named n state)) (after_named n l.after) (sym (some_frames n s s.rest.below.key refl some)) (told ∙ sym k) (sym (ap (after_named n) a)))

-- where it goes on the stack is as it was
begun_at : (class : List ℕ) (n : Numbered) (old new : StackParts) (mirror : ℕ) → IsBegun class n old new (Goes mirror) → new ≡ old
begun_at class n old new mirror (is, name, same) = same

pub begun_same : (class : List ℕ) (n : Numbered) (old new : StackParts) (once : Once) (mirror : ℕ) → once ≡ Goes mirror → IsBegun class n old new once → new ≡ old
begun_same class n old new once mirror e begun = begun_at class n old new mirror (subst (λ (x : Once). IsBegun class n old new x) e begun)

pub runs_same : (old new : StackParts) → new ≡ old → RunsMethod old → RunsMethod new
runs_same old new e runs = subst (λ (s : StackParts). RunsMethod s) (sym e) runs

-- ---- a native method has answered

asked : (c : Context) (n : Numbered) (told : Told) (native : Native) (args words : List Word) (s : Isolate) → IsTold c n told → words ≡ args
    → native_called c.launch c.thread c.links native args s ≡ native_called n.env.launch told.thread n.env.links native words s
asked c n told native args words s is e = rw (is.launch, is.number, is.links, e) refl

pub done_by : (c : Context) (old mid : Numbered) (told : Told) (native : Native) (x : Passed) (words : List Word) (next : ℕ) (s : StackParts) (answer : Out) → IsTold c old told → Grows old mid → AreKeys old s → words ≡ x.arguments
    → native_called old.env.launch told.thread old.env.links native words (named old) ≡ Ok (answer, named mid) → native_done c native x next (point_of old s) ≡ answered c next (off x.slots (point_of mid s)) answer
unfolding native_done
done_by c old mid told native x words next s answer is g keys e done =
    ap (λ (r : Result (Out × Isolate) Stop). r >>= λ y. answered c next (off x.slots (in_isolate y.1 (point_of old s))) y.0) (asked c old told native x.arguments words (named old) is e ∙ done)
    ∙ ap (λ (p : Point). answered c next (off x.slots p) answer) (sym (point_grows old mid s g keys))

pub done_leaves : (c : Context) (old mid new : Numbered) (told : Told) (native : Native) (x : Passed) (words : List Word) (next : ℕ) (s t : StackParts) (answer : Out) (r : Result Left Stop) → IsTold c old told → Grows old mid → AreKeys old s
    → words ≡ x.arguments → native_called old.env.launch told.thread old.env.links native words (named old) ≡ Ok (answer, named mid) → Leaves r (answered c next (off x.slots (point_of mid s)) answer) new t
    → Leaves r (native_done c native x next (point_of old s)) new t
done_leaves c old mid new told native x words next s t answer r is g keys e done left =
    subst (λ (d : Result Went Stop). Leaves r d new t) (sym (done_by c old mid told native x words next s answer is g keys e done)) left

pub done_stops : (c : Context) (n : Numbered) (told : Told) (native : Native) (x : Passed) (words : List Word) (next : ℕ) (s : StackParts) (stop : Stop) → IsTold c n told → words ≡ x.arguments
    → native_called n.env.launch told.thread n.env.links native words (named n) ≡ Err stop → native_done c native x next (point_of n s) ≡ Err stop
unfolding native_done
done_stops c n told native x words next s stop is e done =
    ap (λ (r : Result (Out × Isolate) Stop). r >>= λ y. answered c next (off x.slots (in_isolate y.1 (point_of n s))) y.0) (asked c n told native x.arguments words (named n) is e ∙ done)
