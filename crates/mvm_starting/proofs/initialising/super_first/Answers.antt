use Rattle.std.proofs.Common.{◌∙◌}
use Rattle.mvm_current.proofs.Growth.{keys_grow}
use Rattle.mvm_object.proofs.Initialising.{is_for_grows}
use Rattle.mvm_starting.specs.Initialising.{supers_first}
use Rattle.mvm_starting.proofs.Supers.{begun_left, begun_on, super_here, super_missing}
use Rattle.mvm_starting.proofs.initialising.super_first.Goals as goal

pub returns-in-Ok-Goes-clause-does : goal.returns-in-Ok-Goes-clause-does
returns-in-Ok-Goes-clause-does g c = λ context names go is.
    super_here context c.args.isolate.now c.load.new.self c.in-Ok.mirror c.args.name.now names c.args.stack.now go c.load.ensures.grows c.requires.keys c.load.ensures.same c.in-Ok.ensures.name
    ∙ begun_on c.in-Ok-Goes.field-0 c.in-Ok-Goes.field-0-0 _ (supers_first context names go) c.super_begun.new.isolate c.super_begun.new.stack context.object c.in-Ok-Goes.field-0-is
    (c.in-Ok-Goes.ensures.does context (supers_first context names go) (is_for_grows context c.args.isolate.now c.load.new.self c.args.thread c.load.ensures.grows is))

pub returns-in-Ok-Ends-clause-does : goal.returns-in-Ok-Ends-clause-does
returns-in-Ok-Ends-clause-does g c = λ context names go is.
    super_here context c.args.isolate.now c.load.new.self c.in-Ok.mirror c.args.name.now names c.args.stack.now go c.load.ensures.grows c.requires.keys c.load.ensures.same c.in-Ok.ensures.name
    ∙ begun_left c.in-Ok-Ends.field-0 c.in-Ok-Ends.state _ (supers_first context names go) c.super_begun.new.isolate c.super_begun.new.stack context.object c.super_begun.ensures.frame c.in-Ok-Ends.field-0-is
    (c.in-Ok-Ends.ensures.does context (supers_first context names go) (is_for_grows context c.args.isolate.now c.load.new.self c.args.thread c.load.ensures.grows is))

pub returns-in-Err-super_begun-clause-does : goal.returns-in-Err-super_begun-clause-does
returns-in-Err-super_begun-clause-does g c = λ context names go is other.
    super_here context c.args.isolate.now c.load.new.self c.in-Ok.mirror c.args.name.now names c.args.stack.now go c.load.ensures.grows c.requires.keys c.load.ensures.same c.in-Ok.ensures.name
    ∙ c.in-Err-super_begun.ensures.does context (supers_first context names go) (is_for_grows context c.args.isolate.now c.load.new.self c.args.thread c.load.ensures.grows is) other

pub returns-in-Err-clause-does : goal.returns-in-Err-clause-does
returns-in-Err-clause-does g c = λ context names go is other.
    super_missing context c.args.isolate.now c.args.thread c.args.name.now names c.args.stack.now go c.in-Err.stop is (c.in-Err.ensures.fault other)

pub returns-in-Err-clause-keys : goal.returns-in-Err-clause-keys
returns-in-Err-clause-keys g c = keys_grow c.args.isolate.now c.load.new.self c.args.stack.now c.load.ensures.grows c.requires.keys
