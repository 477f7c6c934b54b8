-- What is left of the four instructions that call, once the method is called.
use Rattle.std.proofs.Common.{◌≡◌, ℕ, List, true, false, Result, Ok, ap, ◌∙◌, refl}
use Rattle.mvm_base.specs.Answers.{◌>>=◌}
use Rattle.mvm_frame.specs.Parts.{StackParts}
use Rattle.mvm_member.specs.Members.{MemberName}
use Rattle.mvm_native.specs.declared.out.Thrown.TheVariants.{IncompatibleClassChangeError, VerifyError}
use Rattle.mvm_set.specs.Names.{superclass}
use Rattle.mvm_set.specs.declared.class.Lineage.{Lineage}
use Rattle.mvm_set.specs.declared.found.MethodAt.{MethodAt}
use Rattle.mvm_isolate.specs.Faults.{looked_up}
use Rattle.mvm_isolate.specs.Look.{Look}
use Rattle.mvm_isolate.specs.Numbered.{Numbered}
use Rattle.mvm_isolate.specs.declared.stop.Stop.{Stop}
use Rattle.mvm_current.specs.Frames.{Frame}
use Rattle.mvm_object.specs.Entries.{once_initialised}
use Rattle.mvm_object.specs.Going.{Context, Point}
use Rattle.mvm_invoke.specs.Calls.{call_target, called, first_or, interface_selected, invoke_interface, invoke_special, invoke_static, invoke_virtual, is_constructor, not_private, received_by, special_method, special_selected, static_called, super_of, virtual_selected, Target}
use Rattle.mvm_invoke.specs.Found.{HasMember, HasTarget}
use Rattle.mvm_invoke.specs.Leaving.{Leaves}
use Rattle.mvm_invoke.proofs.Calling.{then_leaves}
use Rattle.mvm_invoke.specs.declared.left.Left.{Left}
use Rattle.mvm_invoke.specs.declared.receivers.Received.{Received}

pub static_leaves : (c : Context) (look : Look) (index next : ℕ) (p : Point) (at : MethodAt) (t : HasTarget at (call_target look true index p.frame)) (r : Result Left Stop) (n : Numbered) (s : StackParts)
    → c.look ≡ look → Leaves r (once_initialised c t.member.class p (static_called c t.member next)) n s → Leaves r (invoke_static c index next p) n s
unfolding invoke_static
static_leaves c look index next p at t r n s e is =
    then_leaves (call_target c.look true index p.frame) (at, t.member) (λ (u : Target). once_initialised c u.1.class p (static_called c u.1 next)) r n s
    (ap (λ (l : Look). call_target l true index p.frame) e ∙ t.is_target) is

pub virtual_leaves : (c : Context) (look : Look) (index next : ℕ) (p : Point) (at selected : MethodAt) (t : HasTarget at (call_target look false index p.frame)) (x : Received)
    (m : HasMember selected (virtual_selected look at x.receiver p.isolate)) (r : Result Left Stop) (n : Numbered) (s : StackParts)
    → c.look ≡ look → received_by look VerifyError t.member p.frame.body.operands.slots p.isolate ≡ Ok x → Leaves r (called c m.member x.passes next p) n s → Leaves r (invoke_virtual c index next p) n s
unfolding invoke_virtual
virtual_leaves c look index next p at selected t x m r n s e h is =
    then_leaves (call_target c.look false index p.frame) (at, t.member)
    (λ (u : Target). received_by c.look VerifyError u.1 p.frame.body.operands.slots p.isolate >>= λ y. virtual_selected c.look u.0 y.receiver p.isolate >>= λ o. called c o y.passes next p) r n s
    (ap (λ (l : Look). call_target l false index p.frame) e ∙ t.is_target)
    (then_leaves (received_by c.look VerifyError t.member p.frame.body.operands.slots p.isolate) x
    (λ (y : Received). virtual_selected c.look at y.receiver p.isolate >>= λ o. called c o y.passes next p) r n s
    (ap (λ (l : Look). received_by l VerifyError t.member p.frame.body.operands.slots p.isolate) e ∙ h)
    (then_leaves (virtual_selected c.look at x.receiver p.isolate) m.member (λ (o : MemberName). called c o x.passes next p) r n s
    (ap (λ (l : Look). virtual_selected l at x.receiver p.isolate) e ∙ m.is_given) is))

pub interface_leaves : (c : Context) (look : Look) (index next : ℕ) (p : Point) (at selected : MethodAt) (t : HasTarget at (call_target look false index p.frame)) (x : Received)
    (m : HasMember selected (interface_selected look at x.receiver p.isolate)) (r : Result Left Stop) (n : Numbered) (s : StackParts)
    → c.look ≡ look → not_private (at, t.member) ≡ Ok (at, t.member) → received_by look IncompatibleClassChangeError t.member p.frame.body.operands.slots p.isolate ≡ Ok x
    → Leaves r (called c m.member x.passes next p) n s → Leaves r (invoke_interface c index next p) n s
unfolding invoke_interface
interface_leaves c look index next p at selected t x m r n s e k h is =
    then_leaves (call_target c.look false index p.frame >>= not_private) (at, t.member)
    (λ (u : Target). received_by c.look IncompatibleClassChangeError u.1 p.frame.body.operands.slots p.isolate >>= λ y. interface_selected c.look u.0 y.receiver p.isolate >>= λ o. called c o y.passes next p) r n s
    (ap (λ (l : Look). call_target l false index p.frame >>= not_private) e ∙ ap (λ (u : Result Target Stop). u >>= not_private) t.is_target ∙ k)
    (then_leaves (received_by c.look IncompatibleClassChangeError t.member p.frame.body.operands.slots p.isolate) x
    (λ (y : Received). interface_selected c.look at y.receiver p.isolate >>= λ o. called c o y.passes next p) r n s
    (ap (λ (l : Look). received_by l IncompatibleClassChangeError t.member p.frame.body.operands.slots p.isolate) e ∙ h)
    (then_leaves (interface_selected c.look at x.receiver p.isolate) m.member (λ (o : MemberName). called c o x.passes next p) r n s
    (ap (λ (l : Look). interface_selected l at x.receiver p.isolate) e ∙ m.is_given) is))

pub special_leaves : (c : Context) (look : Look) (index next : ℕ) (p : Point) (at selected : MethodAt) (t : HasTarget at (call_target look false index p.frame)) (x : Received)
    (m : HasMember selected (special_method look index (at, t.member) p.frame)) (r : Result Left Stop) (n : Numbered) (s : StackParts)
    → c.look ≡ look → received_by look VerifyError t.member p.frame.body.operands.slots p.isolate ≡ Ok x → Leaves r (called c m.member x.passes next p) n s → Leaves r (invoke_special c index next p) n s
unfolding invoke_special
special_leaves c look index next p at selected t x m r n s e h is =
    then_leaves (call_target c.look false index p.frame) (at, t.member)
    (λ (u : Target). received_by c.look VerifyError u.1 p.frame.body.operands.slots p.isolate >>= λ y. special_method c.look index u p.frame >>= λ o. called c o y.passes next p) r n s
    (ap (λ (l : Look). call_target l false index p.frame) e ∙ t.is_target)
    (then_leaves (received_by c.look VerifyError t.member p.frame.body.operands.slots p.isolate) x
    (λ (y : Received). special_method c.look index (at, t.member) p.frame >>= λ o. called c o y.passes next p) r n s
    (ap (λ (l : Look). received_by l VerifyError t.member p.frame.body.operands.slots p.isolate) e ∙ h)
    (then_leaves (special_method c.look index (at, t.member) p.frame) m.member (λ (o : MemberName). called c o x.passes next p) r n s
    (ap (λ (l : Look). special_method l index (at, t.member) p.frame) e ∙ m.is_given) is))

-- what is no constructor is selected
pub special_else : (look : Look) (index : ℕ) (t : Target) (f : Frame) → is_constructor t.1 ≡ false → special_method look index t f ≡ special_selected look index t f
unfolding special_method
special_else look index t f e = rw e refl

-- the superclass of a class, by its name
pub super_by : (look : Look) (class name : List ℕ) (current : Lineage) (r : Result Lineage Stop) → looked_up (look.class class) ≡ Ok current → first_or class (superclass current.file) ≡ name → looked_up (look.class name) ≡ r → super_of look class ≡ r
unfolding super_of
super_by look class name current r e h k =
    ap (λ (found : Result Lineage Stop). found >>= λ current. looked_up (look.class (first_or class (superclass current.file)))) e ∙ ap (λ (n : List ℕ). looked_up (look.class n)) h ∙ k
