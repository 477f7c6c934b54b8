-- A call with a receiver of the class for which its method was selected.
use Rattle.std.proofs.Common.{◌≡◌, ℕ, suc, ◌+◌, ◌-◌, List, [], ◌∷◌, ◌++◌, Bool, true, false, take, reverse, Option, Some, None, refl, sym, ap, subst, ◌∙◌, arith}
use Rattle.std.specs.Prelude.{◌≢◌, All, slice_get, map, max, if◌then◌else◌, Result, Ok, Err}
use Rattle.std.proofs.lemmas.List.Elements.{All-weaker}
use Rattle.mvm_base.specs.Answers.{◌>>=◌}
use Rattle.mvm_base.specs.declared.descriptor.MethodShape.{MethodShape}
use Rattle.mvm_base.specs.declared.value.Kind.{Kind}
use Rattle.mvm_base.specs.declared.value.Kind.TheVariants as kind
use Rattle.mvm_base.specs.declared.value.Word.{Word}
use Rattle.mvm_base.specs.declared.value.Word.TheVariants as word
use Rattle.mvm_frame.specs.Parts.{StackParts}
use Rattle.mvm_frame.specs.declared.key.FrameKey.{FrameKey}
use Rattle.mvm_frame.specs.declared.slot.Slot.{Slot}
use Rattle.mvm_frame.specs.declared.slot.Slot.TheVariants as slot
use Rattle.mvm_layout.specs.Flags.{has_flag}
use Rattle.mvm_layout.specs.declared.flags.TheConstants as flag
use Rattle.mvm_member.specs.Members.{MemberName, method_named}
use Rattle.mvm_native.specs.declared.out.Thrown.TheVariants.{IncompatibleClassChangeError}
use Rattle.mvm_set.specs.declared.found.MethodAt.{MethodAt}
use Rattle.mvm_isolate.specs.Instances.{is_instance}
use Rattle.mvm_isolate.specs.Isolate.{Isolate, stopped, type_at}
use Rattle.mvm_isolate.specs.Look.{Look}
use Rattle.mvm_isolate.specs.Numbered.{Numbered, look_of, name_at, named, IsClass}
use Rattle.mvm_isolate.specs.Sound.{Grows}
use Rattle.mvm_isolate.specs.Types.{of_class}
use Rattle.mvm_isolate.specs.declared.stop.Stop.{Stop}
use Rattle.mvm_current.specs.Arguments.{are_there, arguments, kind_of_shape, kinds_of, receiver_in, shape_of, widths, with_word, words_in}
use Rattle.mvm_current.specs.Entries.{entry_at}
use Rattle.mvm_current.specs.Frames.{Frame, method}
use Rattle.mvm_current.specs.Keys.{top_named, AreKeys}
use Rattle.mvm_current.specs.Values.{done_of}
use Rattle.mvm_current.specs.declared.key.TheConstants.{NO_METHOD}
use Rattle.mvm_current.proofs.Called.{runs_as}
use Rattle.mvm_current.proofs.Growth.{is_class_grows, key_grows, name_grows, runs_grow}
use Rattle.mvm_current.proofs.Reading.{lowest}
use Rattle.mvm_object.specs.Going.{Context, Point, Went}
use Rattle.mvm_invoke.specs.Calls.{call_target, called, entered_frame, head_in, invoke_interface, locked_frame, not_private, passed_by, received_by, receiver_class, receiver_of, referred, interface_selected}
use Rattle.mvm_invoke.specs.Found.{HasMember, HasTarget}
use Rattle.mvm_invoke.specs.declared.heads.Size.{Size}
use Rattle.mvm_invoke.proofs.Telling.{look_grows}
use Rattle.mvm_calling.specs.KeptCalls.{framed_if_room, known_called, HasSize}
use Rattle.mvm_calling.specs.KeptInterface.{AreInterfaceCalls, IsInterfaceCall, InterfaceSelects}
use Rattle.mvm_calling.specs.KeptVirtual.{AreReceiverKinds, IsReceiver}
use Rattle.mvm_calling.specs.declared.virtual_call.VirtualCall.{VirtualCall}
use Rattle.mvm_calling.proofs.Known.{size_grows}
use Rattle.mvm_calling.proofs.Selecting.{first_of}

-- ---- the short way is the definition

called_so : (c : Context) (place : MethodAt) (resolved m : MemberName) (flags : ℕ) (size : Size) (shape : MethodShape) (slots next o : ℕ) (p : Point) (r : Result (List Word) Stop)
    → head_in c.look m ≡ Ok (record { flags = flags; size = Some size }) → has_flag flag.SYNCHRONIZED flags ≡ false
    → ((words : List Word) → r ≡ Ok words → receiver_in words ≡ Ok o) → is_instance c.look (of_class resolved.class) p.isolate o ≡ true → interface_selected c.look place o p.isolate ≡ Ok m
    → (((r >>= λ words. Ok (record { shape = shape; arguments = words; slots = slots })) >>= λ x. receiver_of c.look IncompatibleClassChangeError resolved x p.isolate) >>= λ y. interface_selected c.look place y.receiver p.isolate >>= λ o. called c o y.passes next p)
    ≡ (done_of r >>= λ done. framed_if_room c m size slots p)
unfolding receiver_of called entered_frame locked_frame
called_so c place resolved m flags size shape slots next o p (Ok words) e h first is one = rw (first words refl, is, one, e, h) refl
called_so c place resolved m flags size shape slots next o p (Err stop) e h first is one = refl

by_target : (c : Context) (index next : ℕ) (p : Point) (place : MethodAt) (resolved m : MemberName) (flags : ℕ) (size : Size) (shape : MethodShape) (o : ℕ)
    → call_target c.look false index p.frame ≡ Ok (place, resolved) → not_private (place, resolved) ≡ Ok (place, resolved) → shape_of resolved.desc ≡ Ok shape
    → head_in c.look m ≡ Ok (record { flags = flags; size = Some size }) → has_flag flag.SYNCHRONIZED flags ≡ false
    → ((words : List Word) → arguments (kinds_of false shape) p.frame.body.operands.slots ≡ Ok words → receiver_in words ≡ Ok o) → is_instance c.look (of_class resolved.class) p.isolate o ≡ true → interface_selected c.look place o p.isolate ≡ Ok m
    → invoke_interface c index next p ≡ known_called c m size (kinds_of false shape) p
unfolding invoke_interface received_by passed_by known_called
by_target c index next p place resolved m flags size shape o t q s e h first is one =
    rw (t, q, s) (called_so c place resolved m flags size shape (widths (kinds_of false shape)) next o p (arguments (kinds_of false shape) p.frame.body.operands.slots) e h first is one)

-- what a call does that is kept, whose receiver is of the class for which it is
pub interface_so : (c : Context) (n : Numbered) (k : VirtualCall) (is : IsInterfaceCall n k) (next : ℕ) (p : Point) (name desc : List ℕ) (r : IsReceiver n p.frame.body.operands.slots k.call.slots k.receiver)
    → c.look ≡ look_of n → p.frame.runs ≡ method (name_at n k.call.home) name desc → p.isolate ≡ named n → invoke_interface c k.call.index next p ≡ known_called c is.member k.call.size k.call.kinds p
interface_so c n k is next p name desc r look runs same =
    let at : type_at p.isolate r.object ≡ Some (of_class (name_at n k.receiver)) = ap (λ (s : Isolate). type_at s r.object) same ∙ r.is_type in
    by_target c k.call.index next p is.selects.place is.resolved is.member is.has_size.flags k.call.size is.has_kinds.shape r.object
    (ap (λ (l : Look). call_target l false k.call.index p.frame) look ∙ is.selects.is_target name desc p.frame runs) is.selects.is_public is.has_kinds.is_shape
    (ap (λ (l : Look). head_in l is.member) look ∙ is.has_size.is_head) is.has_size.plain
    (first_of is.has_kinds.shape k.call.kinds p.frame.body.operands.slots r.object k.call.slots is.has_kinds.are_kinds is.are_slots r.is_slot)
    (ap (λ (l : Look). is_instance l (of_class is.resolved.class) p.isolate r.object) look ∙ is.selects.is_one p.isolate r.object at)
    (ap (λ (l : Look). interface_selected l is.selects.place r.object p.isolate) look ∙ is.selects.is_selected p.isolate r.object at)
    ∙ ap (λ (ks : List Kind). known_called c is.member k.call.size ks p) is.has_kinds.are_kinds

-- ---- what is kept

same_target : (look : Look) (index : ℕ) (f g : Frame) (class n d o e : List ℕ) → f.runs ≡ method class n d → g.runs ≡ method class o e → call_target look false index f ≡ call_target look false index g
unfolding call_target entry_at referred
same_target look index f g class n d o e a b = rw (a, b) refl

same_instance : (look : Look) (class own : List ℕ) (s t : Isolate) (o q : ℕ) → type_at s o ≡ Some (of_class own) → type_at t q ≡ Some (of_class own) → is_instance look (of_class class) s o ≡ is_instance look (of_class class) t q
unfolding is_instance
same_instance look class own s t o q a b = rw (a, b) refl

same_selected : (look : Look) (place : MethodAt) (own : List ℕ) (s t : Isolate) (o q : ℕ) → type_at s o ≡ Some (of_class own) → type_at t q ≡ Some (of_class own) → interface_selected look place o s ≡ interface_selected look place q t
unfolding interface_selected receiver_class
same_selected look place own s t o q a b = rw (a, b) refl

pub selects_at : (n : Numbered) (s : StackParts) (key : FrameKey) (index receiver object : ℕ) (place : MethodAt) (resolved m : MemberName) → s.rest.below.key ≡ Some key → key.method ≢ NO_METHOD → AreKeys n s
    → call_target (look_of n) false index (top_named n s) ≡ Ok (place, resolved) → not_private (place, resolved) ≡ Ok (place, resolved) → type_at (named n) object ≡ Some (of_class (name_at n receiver)) → is_instance (look_of n) (of_class resolved.class) (named n) object ≡ true
    → interface_selected (look_of n) place object (named n) ≡ Ok m → InterfaceSelects n key.mirror index receiver resolved m
selects_at n s key index receiver object place resolved m e other keys target public of is one =
    let x = runs_as n s key e other keys in
    record {
      place = place;
      is_target = λ name desc f r. same_target (look_of n) index f (top_named n s) (name_at n key.mirror) name desc x.has.names.name x.has.names.desc r (x.runs ∙ ap (λ (c : List ℕ). method c x.has.names.name x.has.names.desc) (sym x.class)) ∙ target;
      is_public = public;
      is_one = λ t o a. same_instance (look_of n) resolved.class (name_at n receiver) t (named n) o object a of ∙ is;
      is_selected = λ t o a. same_selected (look_of n) place (name_at n receiver) t (named n) o object a of ∙ one;
    }

-- ---- where an isolate grows

pub selects_grow : (old new : Numbered) (home index receiver : ℕ) (resolved m : MemberName) → Grows old new → IsClass old home → IsClass old receiver → InterfaceSelects old home index receiver resolved m → InterfaceSelects new home index receiver resolved m
selects_grow old new home index receiver resolved m g is one t = record {
  place = t.place;
  is_target = λ name desc f r. ap (λ (l : Look). call_target l false index f) (look_grows old new g) ∙ t.is_target name desc f (r ∙ ap (λ (c : List ℕ). method c name desc) (name_grows old new home g is));
  is_public = t.is_public;
  is_one = λ s o a. ap (λ (l : Look). is_instance l (of_class resolved.class) s o) (look_grows old new g) ∙ t.is_one s o (a ∙ ap (λ (c : List ℕ). Some (of_class c)) (name_grows old new receiver g one));
  is_selected = λ s o a. ap (λ (l : Look). interface_selected l t.place o s) (look_grows old new g) ∙ t.is_selected s o (a ∙ ap (λ (c : List ℕ). Some (of_class c)) (name_grows old new receiver g one));
}

interface_call_grows : (old new : Numbered) → Grows old new → (k : VirtualCall) → IsInterfaceCall old k → IsInterfaceCall new k
interface_call_grows old new g k is = record {
  resolved = is.resolved;
  member = is.member;
  there = is_class_grows old new k.call.home g is.there;
  of_receiver = is_class_grows old new k.receiver g is.of_receiver;
  selects = selects_grow old new k.call.home k.call.index k.receiver is.resolved is.member g is.there is.of_receiver is.selects;
  is_key = key_grows old new k.call.key g is.is_key;
  runs_method = is.runs_method;
  unlocked = is.unlocked;
  runs = runs_grow old new k.call.key 0 g is.is_key ∙ is.runs;
  has_size = size_grows old new is.member k.call.size g is.has_size;
  has_kinds = is.has_kinds;
  are_slots = is.are_slots;
}

pub interface_calls_grow : (old new : Numbered) (calls : List VirtualCall) → Grows old new → AreInterfaceCalls old calls → AreInterfaceCalls new calls
interface_calls_grow old new calls g is = All-weaker (IsInterfaceCall old) (IsInterfaceCall new) (interface_call_grows old new g) calls is

-- what was resolved and selected for a receiver
pub selects_of : (n : Numbered) (s : StackParts) (key : FrameKey) (index receiver object : ℕ) (place selected : MethodAt) (resolved m : MemberName) → s.rest.below.key ≡ Some key → key.method ≢ NO_METHOD → AreKeys n s
    → HasTarget place (call_target (look_of n) false index (top_named n s)) → method_named place ≡ Some resolved → HasMember selected (interface_selected (look_of n) place object (named n)) → method_named selected ≡ Some m → ((r : MemberName) → method_named place ≡ Some r → not_private (place, r) ≡ Ok (place, r))
    → type_at (named n) object ≡ Some (of_class (name_at n receiver)) → is_instance (look_of n) (of_class resolved.class) (named n) object ≡ true → InterfaceSelects n key.mirror index receiver resolved m
selects_of n s key index receiver object place selected resolved m e other keys t a u b public of is =
    let k : Some t.member ≡ Some resolved = sym t.is_member ∙ a in
    let l : Some u.member ≡ Some m = sym u.is_member ∙ b in
    let one : t.member ≡ resolved = (let j = k in cc) in
    let two : u.member ≡ m = (let j = l in cc) in
    selects_at n s key index receiver object place resolved m e other keys (t.is_target ∙ ap (λ (x : MemberName). Ok (place, x)) one) (public resolved a) of is (u.is_given ∙ ap Ok two)
