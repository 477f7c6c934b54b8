use Rattle.std.proofs.Common.{◌≡◌, ◌∙◌, ℕ, List, Ok, Some, subst}
use Rattle.mvm_base.specs.declared.value.Word.TheVariants.{Ref}
use Rattle.mvm_mirror.specs.Seen.{slot_in}
use Rattle.mvm_isolate.specs.Initialise.{static_set}
use Rattle.mvm_isolate.specs.Isolate.{new_object}
use Rattle.mvm_isolate.specs.Numbered.{class_at, name_at, named}
use Rattle.mvm_object.proofs.Streams.{stream_made}
use Rattle.mvm_object.proofs.statics.new_stream.Goals as goal

pub returns-clause-does : goal.returns-clause-does
returns-clause-does c =
    stream_made c.args.isolate.now c.new_object.new.self c.set_static.new.self c.args.mirror c.args.slot c.in_ok-object.object c.args.member.now c.new_object.ensures.grows c.requires.class c.requires.name c.requires.slot
    (subst (λ (n : List ℕ). new_object n 0 (named c.args.isolate.now) ≡ Ok (c.in_ok-object.object, named c.new_object.new.self)) c.stream_class.ensures.name c.in_ok-object.ensures.does)
    (subst
    (λ (desc : List ℕ). (name : List ℕ) → slot_in name desc (class_at c.new_object.new.self c.args.mirror) ≡ Some c.args.slot
    → named c.set_static.new.self ≡ static_set (name_at c.new_object.new.self c.args.mirror) name desc (Ref c.in_ok-object.object) (named c.new_object.new.self))
    c.desc.ensures c.set_static.ensures.named)
