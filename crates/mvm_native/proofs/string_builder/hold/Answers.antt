use Rattle.std.proofs.Common.{ap, ◌∙◌, length, arith}
use Rattle.mvm_heap.specs.Heap.{object_at}
use Rattle.mvm_heap.specs.Objects.{State}
use Rattle.mvm_heap.specs.Sorts.{bits_of}
use Rattle.mvm_native.proofs.Objects.{length_written, object_no_text, sort_written}
use Rattle.mvm_native.proofs.string_builder.hold.Goals as goal

pub put-requires-clause-place : goal.put-requires-clause-place
put-requires-clause-place c =
    omega (arith, c.requires.fields, ap (λ (s : State). length (object_at s.objects c.args.builder).contents) c.set_field.ensures.state, length_written c.args.heap.now.state.objects c.args.builder 0 (bits_of c.args.array) c.args.builder)

pub put-requires-clause-sort : goal.put-requires-clause-sort
put-requires-clause-sort c =
    object_no_text _
    (ap (λ (s : State). (object_at s.objects c.args.builder).sort) c.set_field.ensures.state ∙ sort_written c.args.heap.now.state.objects c.args.builder 0 (bits_of c.args.array) c.args.builder ∙ c.requires.sort)
