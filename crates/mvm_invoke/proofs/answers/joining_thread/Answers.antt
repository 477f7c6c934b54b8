use Rattle.std.proofs.Common.{true, false, sym, ◌∙◌}
use Rattle.mvm_object.specs.Coming.{point_of}
use Rattle.mvm_invoke.specs.NativeCalls.{off}
use Rattle.mvm_invoke.proofs.Answering.{joining_by}
use Rattle.mvm_invoke.proofs.answers.joining_thread.Goals as goal

pub returns-then-has_bit-clause-does : goal.returns-then-has_bit-clause-does
returns-then-has_bit-clause-does c context n told =
    joining_by context c.args.caller.next c.args.thread (off c.args.slots (point_of n c.args.stack.now)) true (told.ended c.args.thread ∙ sym c.if-has_bit.ensures) ∙ c.going.ensures.does context n told.object

pub returns-else-has_bit-clause-does : goal.returns-else-has_bit-clause-does
returns-else-has_bit-clause-does c context n told =
    joining_by context c.args.caller.next c.args.thread (off c.args.slots (point_of n c.args.stack.now)) false (told.ended c.args.thread ∙ sym c.if-has_bit.ensures) ∙ c.leaving.ensures.does context n told.object
