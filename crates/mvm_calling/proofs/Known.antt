-- What is kept of a call is what the definition gives, and stays so where its isolate grows.
use Rattle.std.proofs.Common.{◌≡◌, ℕ, zero, suc, List, [], ◌∷◌, Bool, true, false, Option, Some, None, refl, sym, ap, subst, ◌∙◌}
use Rattle.std.specs.Prelude.{◌≢◌, All, slice_get, max, if◌then◌else◌, IfSome, Result, Ok, Err}
use Rattle.std.proofs.lemmas.List.Elements.{All-head, All-tail, All-weaker}
use Rattle.mvm_base.specs.Answers.{◌>>=◌}
use Rattle.mvm_base.specs.declared.descriptor.MethodShape.{MethodShape}
use Rattle.mvm_base.specs.declared.value.Kind.{Kind}
use Rattle.mvm_base.specs.declared.value.Word.{Word}
use Rattle.mvm_frame.specs.Parts.{StackParts}
use Rattle.mvm_frame.specs.declared.key.FrameKey.{FrameKey}
use Rattle.mvm_layout.specs.Flags.{has_flag}
use Rattle.mvm_layout.specs.declared.flags.TheConstants as flag
use Rattle.mvm_member.specs.Members.{MemberName}
use Rattle.mvm_mirror.specs.declared.state.InitState.TheVariants.{Initialised}
use Rattle.mvm_set.specs.declared.class.Lineage.{Lineage}
use Rattle.mvm_set.specs.declared.found.MethodAt.{MethodAt}
use Rattle.mvm_isolate.specs.Faults.{looked_up}
use Rattle.mvm_isolate.specs.Initialise.{begins, links_and_begins}
use Rattle.mvm_isolate.specs.Look.{Look}
use Rattle.mvm_isolate.specs.Numbered.{Numbered, look_of, name_at, IsClass}
use Rattle.mvm_isolate.specs.Sound.{Grows}
use Rattle.mvm_isolate.specs.declared.stop.Stop.{Stop}
use Rattle.mvm_current.specs.Arguments.{arguments, kinds_of, shape_of, widths}
use Rattle.mvm_current.specs.Entries.{entry_at}
use Rattle.mvm_current.specs.Frames.{Frame, method}
use Rattle.mvm_current.specs.Keys.{runs_of, top_named, AreKeys, IsKey}
use Rattle.mvm_current.specs.Values.{done_of}
use Rattle.mvm_current.specs.declared.key.TheConstants.{NO_METHOD}
use Rattle.mvm_current.proofs.Called.{runs_as}
use Rattle.mvm_current.proofs.Growth.{is_class_grows, key_grows, name_grows, runs_grow}
use Rattle.mvm_object.specs.Entries.{once_initialised}
use Rattle.mvm_object.specs.Going.{Context, Point, Went}
use Rattle.mvm_invoke.specs.Calls.{call_target, called, entered_frame, head_in, invoke_static, locked_frame, passed_by, referred, static_called}
use Rattle.mvm_invoke.specs.Found.{HasTarget}
use Rattle.mvm_invoke.specs.declared.heads.Size.{Size}
use Rattle.mvm_invoke.proofs.Telling.{look_grows}
use Rattle.mvm_calling.specs.KeptCalls.{framed_if_room, known_called, AreCalls, AreKindsOf, HasSize, IsStaticCall, IsTarget}
use Rattle.mvm_calling.specs.declared.static_call.StaticCall.{StaticCall}

-- ---- lists

pub all_at : {X : Type 0} (P : X → Type 0) (xs : List X) (i : ℕ) (x : X) → slice_get xs i ≡ Some x → All P xs → P x
all_at P [] i x e h = absurd cc
all_at P (y ∷ xs) zero x e h = let k : y ≡ x = cc in subst P k (All-head P y xs h)
all_at P (y ∷ xs) (suc i) x e h = all_at P xs i x e (All-tail P y xs h)

-- ---- the method that an index names

-- it is told by the class of the frame's method alone
same_target : (look : Look) (index : ℕ) (f g : Frame) (class n d o e : List ℕ) → f.runs ≡ method class n d → g.runs ≡ method class o e → call_target look true index f ≡ call_target look true index g
unfolding call_target entry_at referred
same_target look index f g class n d o e a b = rw (a, b) refl

pub is_target : (n : Numbered) (s : StackParts) (key : FrameKey) (index : ℕ) (at : MethodAt) → s.rest.below.key ≡ Some key → key.method ≢ NO_METHOD → AreKeys n s
    → (t : HasTarget at (call_target (look_of n) true index (top_named n s))) → IsTarget n key.mirror index t.member
is_target n s key index at e other keys t =
    let x = runs_as n s key e other keys in
    record {
      place = at;
      is_target = λ name desc f r. same_target (look_of n) index f (top_named n s) (name_at n key.mirror) name desc x.has.names.name x.has.names.desc r (x.runs ∙ ap (λ (c : List ℕ). method c x.has.names.name x.has.names.desc) (sym x.class)) ∙ t.is_target;
    }

-- ---- where an isolate grows

pub target_grows : (old new : Numbered) (home index : ℕ) (m : MemberName) → Grows old new → IsClass old home → IsTarget old home index m → IsTarget new home index m
target_grows old new home index m g is t = record {
  place = t.place;
  is_target = λ name desc f r. ap (λ (l : Look). call_target l true index f) (look_grows old new g) ∙ t.is_target name desc f (r ∙ ap (λ (c : List ℕ). method c name desc) (name_grows old new home g is));
}

pub size_grows : (old new : Numbered) (m : MemberName) (size : Size) → Grows old new → HasSize old m size → HasSize new m size
size_grows old new m size g h = record { flags = h.flags; is_head = ap (λ (l : Look). head_in l m) (look_grows old new g) ∙ h.is_head; plain = h.plain }

pub call_grows : (old new : Numbered) → Grows old new → (k : StaticCall) → IsStaticCall old k → IsStaticCall new k
call_grows old new g k is = record {
  member = is.member;
  there = is_class_grows old new k.home g is.there;
  target = target_grows old new k.home k.index is.member g is.there is.target;
  is_key = key_grows old new k.key g is.is_key;
  runs_method = is.runs_method;
  unlocked = is.unlocked;
  of_class = name_grows old new k.key.mirror g is.is_key.class ∙ is.of_class;
  runs = runs_grow old new k.key 0 g is.is_key ∙ is.runs;
  has_size = size_grows old new is.member k.size g is.has_size;
  has_kinds = is.has_kinds;
  are_slots = is.are_slots;
}

pub calls_grow : (old new : Numbered) (calls : List StaticCall) → Grows old new → AreCalls old calls → AreCalls new calls
calls_grow old new calls g is = All-weaker (IsStaticCall old) (IsStaticCall new) (call_grows old new g) calls is

-- ---- the short way is the definition

-- the class is initialised, so the attempt goes on
pub goes_on : (c : Context) (class : List ℕ) (p : Point) (go : Point → Result Went Stop) (found : Lineage) → looked_up (c.look.class class) ≡ Ok found → p.isolate.classes.states class ≡ Initialised → once_initialised c class p go ≡ go p
unfolding once_initialised links_and_begins begins
goes_on c class p go found e h = rw (e, h) refl

framed_so : (c : Context) (m : MemberName) (flags : ℕ) (size : Size) (shape : MethodShape) (slots next : ℕ) (p : Point) (r : Result (List Word) Stop)
    → head_in c.look m ≡ Ok (record { flags = flags; size = Some size }) → has_flag flag.SYNCHRONIZED flags ≡ false
    → ((r >>= λ words. Ok (record { shape = shape; arguments = words; slots = slots })) >>= λ x. called c m x next p) ≡ (done_of r >>= λ done. framed_if_room c m size slots p)
unfolding called entered_frame locked_frame
framed_so c m flags size shape slots next p (Ok words) e h = rw (e, h) refl
framed_so c m flags size shape slots next p (Err stop) e h = refl

static_so : (c : Context) (m : MemberName) (flags : ℕ) (size : Size) (shape : MethodShape) (kinds : List Kind) (next : ℕ) (p : Point)
    → head_in c.look m ≡ Ok (record { flags = flags; size = Some size }) → has_flag flag.SYNCHRONIZED flags ≡ false → shape_of m.desc ≡ Ok shape → kinds_of true shape ≡ kinds
    → static_called c m next p ≡ known_called c m size kinds p
unfolding static_called passed_by known_called
static_so c m flags size shape kinds next p e h s k = rw (s, k) (framed_so c m flags size shape (widths kinds) next p (arguments kinds p.frame.body.operands.slots) e h)

target_so : (c : Context) (index next : ℕ) (p : Point) (at : MethodAt) (m : MemberName) → call_target c.look true index p.frame ≡ Ok (at, m) → invoke_static c index next p ≡ once_initialised c m.class p (static_called c m next)
unfolding invoke_static
target_so c index next p at m e = rw e refl

-- what a call does that is kept, whose class is initialised
pub known_so : (c : Context) (n : Numbered) (k : StaticCall) (is : IsStaticCall n k) (next : ℕ) (p : Point) (name desc : List ℕ) (found : Lineage)
    → c.look ≡ look_of n → p.frame.runs ≡ method (name_at n k.home) name desc → looked_up ((look_of n).class (name_at n k.key.mirror)) ≡ Ok found → p.isolate.classes.states (name_at n k.key.mirror) ≡ Initialised
    → invoke_static c k.index next p ≡ known_called c is.member k.size k.kinds p
known_so c n k is next p name desc found look runs there state =
    target_so c k.index next p is.target.place is.member (ap (λ (l : Look). call_target l true k.index p.frame) look ∙ is.target.is_target name desc p.frame runs)
    ∙ goes_on c is.member.class p (static_called c is.member next) found (ap (λ (l : Look). looked_up (l.class is.member.class)) look ∙ ap (λ (o : List ℕ). looked_up ((look_of n).class o)) (sym is.of_class) ∙ there) (ap p.isolate.classes.states (sym is.of_class) ∙ state)
    ∙ static_so c is.member is.has_size.flags k.size is.has_kinds.shape k.kinds next p (ap (λ (l : Look). head_in l is.member) look ∙ is.has_size.is_head) is.has_size.plain is.has_kinds.is_shape is.has_kinds.are_kinds
