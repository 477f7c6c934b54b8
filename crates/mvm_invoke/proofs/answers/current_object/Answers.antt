use Rattle.std.proofs.Common.{Ok, sym, ap, ◌∙◌}
use Rattle.mvm_object.specs.Coming.{point_of}
use Rattle.mvm_isolate.proofs.Keeping.{grows_then}
use Rattle.mvm_invoke.specs.NativeCalls.{off}
use Rattle.mvm_invoke.proofs.Answering.{current_some, current_new}
use Rattle.mvm_invoke.proofs.answers.current_object.Goals as goal

pub returns-in-Some-clause-does : goal.returns-in-Some-clause-does
returns-in-Some-clause-does c context told =
    current_some context c.args.caller.next (off c.args.slots (point_of c.args.isolate.now c.args.stack.now)) context.object c.in-Some.object (told.object ∙ c.in-Some.is) ∙ ap Ok (c.giving.ensures.does context c.args.isolate.now told.object)

pub returns-in-Some-clause-after : goal.returns-in-Some-clause-after
returns-in-Some-clause-after c = c.giving.ensures.after c.args.isolate.now

pub returns-in-Ok-clause-does : goal.returns-in-Ok-clause-does
returns-in-Ok-clause-does c context told =
    current_new context c.args.caller.next c.args.slots c.args.isolate.now c.new_object.new.self c.set_thread_number.new.isolate c.args.stack.now c.giving-left.new.stack c.in-Ok.object c.args.caller.told.thread _ c.giving-left.result (told.object ∙ c.in-None.is) c.thread_class-class.ensures.name c.in-Ok.ensures.does c.set_thread_number.ensures.named told.number
    (grows_then c.args.isolate.now c.new_object.new.self c.set_thread_number.new.isolate c.new_object.ensures.grows c.set_thread_number.ensures.grows) c.requires.keys
    (c.giving-left.ensures.does context c.set_thread_number.new.isolate told.object)

pub returns-in-Ok-clause-grows : goal.returns-in-Ok-clause-grows
returns-in-Ok-clause-grows c = grows_then c.args.isolate.now c.new_object.new.self c.set_thread_number.new.isolate c.new_object.ensures.grows c.set_thread_number.ensures.grows

pub returns-in-Ok-clause-after : goal.returns-in-Ok-clause-after
returns-in-Ok-clause-after c = c.giving-left.ensures.after c.set_thread_number.new.isolate

pub returns-in-Some-clause-begins : goal.returns-in-Some-clause-begins
returns-in-Some-clause-begins c = c.giving.ensures.begins c.args.caller.told.threads c.args.isolate.now.env.launch.limits.threads

pub returns-in-Ok-clause-begins : goal.returns-in-Ok-clause-begins
returns-in-Ok-clause-begins c = c.giving-left.ensures.begins c.args.caller.told.threads c.set_thread_number.new.isolate.env.launch.limits.threads
