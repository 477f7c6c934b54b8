use Rattle.std.proofs.Common.{◌∙◌, ℕ, length, ap}
use Rattle.std.proofs.lemmas.List.{length-replicate}
use Rattle.mvm_heap.specs.Objects.{Object}
use Rattle.mvm_native.proofs.Objects.{new_object, old_two}
use Rattle.mvm_native.proofs.string_builder.new_array.Goals as goal

pub returns-in-Ok-clause-chars : goal.returns-in-Ok-clause-chars
returns-in-Ok-clause-chars c = ap (λ (o : Object). o.sort) (new_object _ _ _ _ c.in-Ok.ensures.does)

pub returns-in-Ok-clause-room : goal.returns-in-Ok-clause-room
returns-in-Ok-clause-room c = ap (λ (o : Object). length o.contents) (new_object _ _ _ _ c.in-Ok.ensures.does) ∙ length-replicate {A = ℕ} c.args.size 0

pub returns-in-Ok-clause-kept : goal.returns-in-Ok-clause-kept
returns-in-Ok-clause-kept c = λ h. old_two _ _ _ _ c.args.builder c.in-Ok.ensures.does h
