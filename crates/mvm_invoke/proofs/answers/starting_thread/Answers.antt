use Rattle.std.proofs.Common.{true, false, ◌∙◌}
use Rattle.mvm_object.specs.Coming.{point_of}
use Rattle.mvm_invoke.specs.NativeCalls.{off}
use Rattle.mvm_invoke.proofs.Answering.{starting_by, starts_by}
use Rattle.mvm_invoke.proofs.answers.starting_thread.Goals as goal

pub returns-then-may_start-clause-does : goal.returns-then-may_start-clause-does
returns-then-may_start-clause-does c context told =
    starting_by context c.args.isolate.now c.args.caller.told told c.args.caller.next c.args.object (off c.args.slots (point_of c.args.isolate.now c.args.stack.now)) true c.if-may_start.ensures
    ∙ starts_by context c.args.caller.next c.args.object c.args.slots c.args.caller.told.threads c.args.isolate.now c.set_thread_number.new.isolate c.args.stack.now c.set_thread_number.ensures.grows c.requires.keys told.threads c.set_thread_number.ensures.named
    ∙ c.going.ensures.does context c.set_thread_number.new.isolate told.object

pub returns-else-may_start-clause-does : goal.returns-else-may_start-clause-does
returns-else-may_start-clause-does c context told =
    starting_by context c.args.isolate.now c.args.caller.told told c.args.caller.next c.args.object (off c.args.slots (point_of c.args.isolate.now c.args.stack.now)) false c.if-may_start.ensures
    ∙ c.leaving.ensures.does context c.args.isolate.now told.object
