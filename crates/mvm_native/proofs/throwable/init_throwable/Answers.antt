use Rattle.std.proofs.Common.{ap, ◌∙◌, length, arith}
use Rattle.mvm_heap.specs.Heap.{object_at}
use Rattle.mvm_heap.specs.Objects.{State}
use Rattle.mvm_heap.specs.Sorts.{bits_of}
use Rattle.mvm_native.proofs.Objects.{length_written, sort_written}
use Rattle.mvm_native.proofs.throwable.init_throwable.Goals as goal

pub set_field-requires-2-clause-place : goal.set_field-requires-2-clause-place
set_field-requires-2-clause-place c =
    omega (arith, c.requires.fields, ap (λ (s : State). length (object_at s.objects c.args.object).contents) c.set_field.ensures.state, length_written c.args.env.now.heap.state.objects c.args.object 0 (bits_of c.args.message) c.args.object)

pub set_field-requires-2-clause-sort : goal.set_field-requires-2-clause-sort
set_field-requires-2-clause-sort c =
    ap (λ (s : State). (object_at s.objects c.args.object).sort) c.set_field.ensures.state ∙ sort_written c.args.env.now.heap.state.objects c.args.object 0 (bits_of c.args.message) c.args.object ∙ c.requires.sort
