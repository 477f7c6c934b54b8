use Rattle.std.proofs.Common.{◌∙◌}
use Rattle.mvm_isolate.specs.Numbered.{look_of}
use Rattle.mvm_current.proofs.Growth.{keys_grow}
use Rattle.mvm_object.specs.Coming.{point_of}
use Rattle.mvm_invoke.specs.Calls.{called}
use Rattle.mvm_invoke.proofs.Calling.{called_fault, leaves_at, on_err_then}
use Rattle.mvm_invoke.proofs.Telling.{limits_grow, told_grows}
use Rattle.mvm_invoke.proofs.calls.called.Goals as goal

pub called_in-requires-clause-keys : goal.called_in-requires-clause-keys
called_in-requires-clause-keys g c = keys_grow c.args.isolate.now c.load.new.self c.args.stack.now c.load.ensures.grows c.requires.keys

pub called_in-requires-clause-limits : goal.called_in-requires-clause-limits
called_in-requires-clause-limits g c = limits_grow c.args.isolate.now c.load.new.self c.args.stack.now c.load.ensures.grows c.requires.limits

pub returns-in-Ok-clause-does : goal.returns-in-Ok-clause-does
returns-in-Ok-clause-does g c context told =
    leaves_at (called context c.args.member.now c.args.passed.now c.args.caller.next) c.called_in.result c.args.isolate.now c.load.new.self c.called_in.new.isolate c.args.stack.now c.called_in.new.stack c.load.ensures.grows c.requires.keys c.load.ensures.same
    (c.called_in.ensures.does context (told_grows context c.args.isolate.now c.load.new.self c.args.caller.told told c.load.ensures.grows c.load.ensures.links))

pub returns-in-Ok-clause-err : goal.returns-in-Ok-clause-err
returns-in-Ok-clause-err g c = on_err_then c.called_in.result _ _ c.called_in.ensures.err (λ e. e ∙ c.load.ensures.same)

pub returns-in-Err-clause-does : goal.returns-in-Err-clause-does
returns-in-Err-clause-does g c context told other =
    called_fault context (look_of c.args.isolate.now) c.args.member.now c.class.result.now c.args.passed.now c.args.caller.next (point_of c.args.isolate.now c.args.stack.now) c.in-Err.stop told.look c.class.ensures (c.in-Err.ensures.fault other)

pub returns-in-Err-clause-keys : goal.returns-in-Err-clause-keys
returns-in-Err-clause-keys g c = keys_grow c.args.isolate.now c.load.new.self c.args.stack.now c.load.ensures.grows c.requires.keys
