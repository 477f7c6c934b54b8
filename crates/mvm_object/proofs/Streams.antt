-- A new stream is from then on the value of the static field.
use Rattle.std.proofs.Common.{◌≡◌, ◌∙◌, ℕ, List, Some, Result, Ok, refl, sym, ap, subst}
use Rattle.mvm_base.specs.Answers.{◌>>=◌}
use Rattle.mvm_base.specs.declared.value.Word.{Word}
use Rattle.mvm_base.specs.declared.value.Word.TheVariants.{Ref}
use Rattle.mvm_member.specs.Members.{MemberName}
use Rattle.mvm_mirror.specs.Seen.{slot_in}
use Rattle.mvm_isolate.specs.Initialise.{static_set}
use Rattle.mvm_isolate.specs.Isolate.{Isolate, new_object}
use Rattle.mvm_isolate.specs.Numbered.{Numbered, class_at, name_at, named, IsClass}
use Rattle.mvm_isolate.specs.Sound.{Grows}
use Rattle.mvm_isolate.specs.Thrown.{STREAM}
use Rattle.mvm_isolate.specs.declared.stop.Stop.{Stop}
use Rattle.mvm_current.proofs.Growth.{class_grows, name_grows}
use Rattle.mvm_object.specs.Fields.{new_stream}
use Rattle.mvm_object.specs.Slots.{IsSlotOf}

pub stream_made : (old mid new : Numbered) (mirror slot object : ℕ) (m : MemberName) → Grows old mid → IsClass old mirror → name_at old mirror ≡ m.class → IsSlotOf old mirror m slot
    → new_object STREAM 0 (named old) ≡ Ok (object, named mid)
    → ((name : List ℕ) → slot_in name m.desc (class_at mid mirror) ≡ Some slot → named new ≡ static_set (name_at mid mirror) name m.desc (Ref object) (named mid))
    → new_stream m (named old) ≡ Ok (Ref object, named new)
unfolding new_stream
stream_made old mid new mirror slot object m grows class name is made set =
    let at : class_at mid mirror ≡ class_at old mirror = class_grows old mid mirror grows class in
    let called : name_at mid mirror ≡ m.class = name_grows old mid mirror grows class ∙ name in
    let value : named new ≡ static_set m.class m.name m.desc (Ref object) (named mid) =
    set m.name (ap (slot_in m.name m.desc) at ∙ is.is) ∙ ap (λ (n : List ℕ). static_set n m.name m.desc (Ref object) (named mid)) called in
    rw (made, value) refl
