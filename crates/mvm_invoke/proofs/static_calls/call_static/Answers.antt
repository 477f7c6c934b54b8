use Rattle.std.proofs.Common.{Ok, ap, ◌∙◌}
use Rattle.mvm_isolate.proofs.Keeping.{grows_then}
use Rattle.mvm_object.specs.Coming.{point_of}
use Rattle.mvm_invoke.specs.Calls.{static_called}
use Rattle.mvm_invoke.proofs.Calling.{begun_same, initialised_ends, initialised_goes, on_err_then, runs_same}
use Rattle.mvm_invoke.proofs.Telling.{told_for, told_grows}
use Rattle.mvm_invoke.proofs.static_calls.call_static.Goals as goal

pub called_static-requires-clause-method : goal.called_static-requires-clause-method
called_static-requires-clause-method g c =
    runs_same c.args.stack.now c.once_initialised.new.stack (begun_same c.class.result.now c.once_initialised.new.isolate c.args.stack.now c.once_initialised.new.stack c.in_ok-once.once _ c.in-Goes.is c.in_ok-once.ensures.begun) c.requires.method

pub returns-in-Goes-clause-does : goal.returns-in-Goes-clause-does
returns-in-Goes-clause-does g c context told =
    initialised_goes context c.class.result.now c.args.member.now.class (point_of c.args.isolate.now c.args.stack.now) (static_called context c.args.member.now c.args.caller.next) c.in_ok-once.once _ c.called_static.result c.once_initialised.new.isolate c.called_static.new.isolate c.once_initialised.new.stack c.called_static.new.stack context.object
    c.class.ensures c.in-Goes.is (c.in_ok-once.ensures.does context (static_called context c.args.member.now c.args.caller.next) (told_for context c.args.isolate.now c.args.caller.told told))
    (c.called_static.ensures.does context (told_grows context c.args.isolate.now c.once_initialised.new.isolate c.args.caller.told told c.once_initialised.ensures.grows c.once_initialised.ensures.links))

pub returns-in-Goes-clause-err : goal.returns-in-Goes-clause-err
returns-in-Goes-clause-err g c = on_err_then c.called_static.result _ _ c.called_static.ensures.err (λ e. e ∙ c.in_ok-once.ensures.same _ (ap Ok c.in-Goes.is))

pub returns-in-Goes-clause-stack : goal.returns-in-Goes-clause-stack
returns-in-Goes-clause-stack g c =
    on_err_then c.called_static.result _ _ c.called_static.ensures.stack
    (λ e. e ∙ begun_same c.class.result.now c.once_initialised.new.isolate c.args.stack.now c.once_initialised.new.stack c.in_ok-once.once _ c.in-Goes.is c.in_ok-once.ensures.begun)

pub returns-in-Ends-clause-does : goal.returns-in-Ends-clause-does
returns-in-Ends-clause-does g c context told =
    initialised_ends context c.class.result.now c.args.member.now.class (point_of c.args.isolate.now c.args.stack.now) (static_called context c.args.member.now c.args.caller.next) c.in_ok-once.once c.in-Ends.state c.once_initialised.new.isolate c.once_initialised.new.stack c.args.caller.told.object c.left.result
    c.class.ensures c.in-Ends.is (c.in_ok-once.ensures.does context (static_called context c.args.member.now c.args.caller.next) (told_for context c.args.isolate.now c.args.caller.told told)) c.once_initialised.ensures.frame told.object c.left.ensures.object c.left.ensures.after

pub returns-in-Goes-clause-grows : goal.returns-in-Goes-clause-grows
returns-in-Goes-clause-grows g c = grows_then c.args.isolate.now c.once_initialised.new.isolate c.called_static.new.isolate c.once_initialised.ensures.grows c.called_static.ensures.grows
