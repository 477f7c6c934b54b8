use Rattle.std.proofs.Common.{Ok, Some, refl, ap, sym, ◌∙◌}
use Rattle.mvm_current.proofs.Growth.{keys_grow}
use Rattle.mvm_object.specs.Coming.{doing_named, point_of}
use Rattle.mvm_object.specs.Going.{stays}
use Rattle.mvm_object.specs.declared.state.ThreadState.TheVariants.{Entering}
use Rattle.mvm_isolate.specs.Numbered.{named}
use Rattle.mvm_invoke.proofs.Telling.{limits_grow}
use Rattle.mvm_starting.proofs.Beginning.{enters_false, enters_true, first_grows, run_goes, run_waits, started_in, stays_before}
use Rattle.mvm_starting.proofs.runs.run_locked.Goals as goal

pub returns-then-not-has_flag-clause-limits : goal.returns-then-not-has_flag-clause-limits
returns-then-not-has_flag-clause-limits c = c.started.ensures.limits _ c.requires.limits

pub returns-in-Ok-true-clause-does : goal.returns-in-Ok-true-clause-does
returns-in-Ok-true-clause-does c context is =
    run_goes context c.args.member.now c.args.first.head c.args.object (point_of c.args.isolate.now c.args.stack.now) (named c.once_entered.new.isolate) (sym c.has_flag.ensures ∙ c.if-not-has_flag.false)
    (λ go. enters_true c.in-Ok-true.field-0 _ go _ _ c.in-Ok-true.field-0-test (c.in-Ok-true.ensures.does context (point_of c.args.isolate.now c.args.stack.now) go is.number refl))
    ∙ ap Ok (started_in context c.args.isolate.now c.once_entered.new.isolate c.args.member.now (Some c.args.object) c.args.first.head c.args.object c.args.stack.now c.started-in-Ok-true.new.stack c.once_entered.ensures.grows c.requires.keys
    (c.started-in-Ok-true.ensures.does context c.once_entered.new.isolate c.args.member.now (first_grows c.args.isolate.now c.once_entered.new.isolate c.args.member.now c.args.first c.once_entered.ensures.grows c.requires.first)))

pub returns-in-Ok-true-clause-keys : goal.returns-in-Ok-true-clause-keys
returns-in-Ok-true-clause-keys c =
    c.started-in-Ok-true.ensures.keys c.once_entered.new.isolate c.args.member.now (first_grows c.args.isolate.now c.once_entered.new.isolate c.args.member.now c.args.first c.once_entered.ensures.grows c.requires.first)
    (keys_grow c.args.isolate.now c.once_entered.new.isolate c.args.stack.now c.once_entered.ensures.grows c.requires.keys)

pub returns-in-Ok-true-clause-limits : goal.returns-in-Ok-true-clause-limits
returns-in-Ok-true-clause-limits c = c.started-in-Ok-true.ensures.limits _ (limits_grow c.args.isolate.now c.once_entered.new.isolate c.args.stack.now c.once_entered.ensures.grows c.requires.limits)

pub returns-in-Ok-false-clause-does : goal.returns-in-Ok-false-clause-does
returns-in-Ok-false-clause-does c context is =
    run_waits context c.args.member.now c.args.first.head c.args.object (point_of c.args.isolate.now c.args.stack.now) (stays context (doing_named c.once_entered.new.isolate (Entering c.args.object 0)) (point_of c.args.isolate.now c.args.stack.now)) (sym c.has_flag.ensures ∙ c.if-not-has_flag.false)
    (λ go. enters_false c.in-Ok-false.field-0 _ go _ _ c.in-Ok-false.field-0-test (c.in-Ok-false.ensures.does context (point_of c.args.isolate.now c.args.stack.now) go is.number refl))
    ∙ ap Ok (stays_before context c.args.isolate.now c.once_entered.new.isolate c.args.object c.args.stack.now c.once_entered.ensures.grows c.requires.keys c.requires.frame (c.once_entered.ensures.waits (c.in-Ok-false.is ∙ ap Ok c.in-Ok-false.field-0-test)))

pub returns-in-Ok-false-clause-keys : goal.returns-in-Ok-false-clause-keys
returns-in-Ok-false-clause-keys c = keys_grow c.args.isolate.now c.once_entered.new.isolate c.args.stack.now c.once_entered.ensures.grows c.requires.keys

pub returns-in-Err-clause-keys : goal.returns-in-Err-clause-keys
returns-in-Err-clause-keys c = keys_grow c.args.isolate.now c.once_entered.new.isolate c.args.stack.now c.once_entered.ensures.grows c.requires.keys
