-- A call whose method is known, by whether there is room for its frame.
use Rattle.std.proofs.Common.{◌≡◌, ℕ, List, ◌∷◌, Bool, true, false, None, refl, sym, ap, ◌∙◌}
use Rattle.std.specs.Prelude.{IsSome, max, if◌then◌else◌, Result, Ok, Err}
use Rattle.mvm_base.specs.Answers.{◌>>=◌}
use Rattle.mvm_base.specs.declared.value.Kind.{Kind}
use Rattle.mvm_frame.specs.Parts.{StackParts}
use Rattle.mvm_frame.specs.declared.slot.Slot.{Slot}
use Rattle.mvm_history.specs.declared.launch.Launch.{Launch}
use Rattle.mvm_member.specs.Members.{MemberName}
use Rattle.mvm_native.specs.declared.out.Thrown.TheVariants.{StackOverflowError}
use Rattle.mvm_isolate.specs.Isolate.{stopped}
use Rattle.mvm_isolate.specs.Numbered.{Numbered}
use Rattle.mvm_isolate.specs.declared.stop.Stop.{Stop}
use Rattle.mvm_current.specs.Arguments.{arguments, widths}
use Rattle.mvm_current.specs.Frames.{has_room}
use Rattle.mvm_current.specs.Keys.{callers_named, frames_named, top_named}
use Rattle.mvm_current.specs.Values.{done_of}
use Rattle.mvm_object.specs.Coming.{point_of}
use Rattle.mvm_object.specs.Going.{Context, Point, Went}
use Rattle.mvm_invoke.specs.Calls.{framed}
use Rattle.mvm_invoke.specs.declared.heads.Size.{Size}
use Rattle.mvm_invoke.proofs.Framing.{some_frames}
use Rattle.mvm_calling.specs.KeptCalls.{framed_if_room, known_called}

room_at : (n : Numbered) (s : StackParts) (launch : Launch) (locals depth : ℕ) → launch ≡ n.env.launch → IsSome s.rest.below.key → has_room launch.limits locals depth (top_named n s ∷ callers_named n s) ≡ has_room n.env.launch.limits locals depth (frames_named n s)
room_at n s launch locals depth e some = ap (λ (l : Launch). has_room l.limits locals depth (top_named n s ∷ callers_named n s)) e ∙ ap (has_room n.env.launch.limits locals depth) (sym (some_frames n s s.rest.below.key refl some))

with_arguments : (c : Context) (m : MemberName) (size : Size) (kinds : List Kind) (p : Point) (slots : List Slot) (u : Unit {0}) → p.frame.body.operands.slots ≡ slots → done_of (arguments kinds slots) ≡ Ok u → known_called c m size kinds p ≡ framed_if_room c m size (widths kinds) p
unfolding known_called
with_arguments c m size kinds p slots u e h = rw (e, h) refl

by_room : (c : Context) (m : MemberName) (size : Size) (slots : ℕ) (p : Point) (b : Bool) → has_room c.launch.limits (max size.locals slots) size.depth (p.frame ∷ p.callers) ≡ b
    → framed_if_room c m size slots p ≡ (if b then Ok (framed c m size None slots p) else stopped StackOverflowError)
by_room c m size slots p b e = rw e refl

pub known_by : (c : Context) (n : Numbered) (m : MemberName) (size : Size) (kinds : List Kind) (slots locals : ℕ) (s : StackParts) (b : Bool) (u : Unit {0})
    → c.launch ≡ n.env.launch → IsSome s.rest.below.key → widths kinds ≡ slots → locals ≡ max size.locals slots → b ≡ has_room n.env.launch.limits locals size.depth (frames_named n s) → done_of (arguments kinds s.operands.slots) ≡ Ok u
    → known_called c m size kinds (point_of n s) ≡ (if b then Ok (framed c m size None slots (point_of n s)) else stopped StackOverflowError)
known_by c n m size kinds slots locals s b u launch some w e is there =
    with_arguments c m size kinds (point_of n s) s.operands.slots u refl there
    ∙ ap (λ (k : ℕ). framed_if_room c m size k (point_of n s)) w
    ∙ by_room c m size slots (point_of n s) b (ap (λ (l : ℕ). has_room c.launch.limits l size.depth (top_named n s ∷ callers_named n s)) (sym e) ∙ room_at n s c.launch locals size.depth launch some ∙ sym is)
