use Rattle.mvm_invoke.proofs.Telling.{keys_below, told_for}
use Rattle.mvm_thread.proofs.Going.{comes_left, goes_below}
use Rattle.mvm_thread.proofs.entries.on_entry.Goals as goal

pub returns-in_err-going-in-Constant-clause-keys : goal.returns-in_err-going-in-Constant-clause-keys
returns-in_err-going-in-Constant-clause-keys g c = keys_below c.args.isolate.now c.going.new.isolate c.args.stack.now c.going.new.stack c.going.ensures.grows c.requires.keys c.going.ensures.below

pub returns-in_ok-going-in-Constant-clause-does : goal.returns-in_ok-going-in-Constant-clause-does
returns-in_ok-going-in-Constant-clause-does g c context told =
    goes_below context c.going.new.isolate c.args.stack.now c.going.new.stack c.does.result c.args.told.object _ c.requires.frame c.going.ensures.below told.object c.does.ensures.object c.does.ensures.after (c.in_ok-going-in-Constant.ensures.does context told.look)

pub returns-in_ok-going-in-Constant-clause-keys : goal.returns-in_ok-going-in-Constant-clause-keys
returns-in_ok-going-in-Constant-clause-keys g c = keys_below c.args.isolate.now c.going.new.isolate c.args.stack.now c.going.new.stack c.going.ensures.grows c.requires.keys c.going.ensures.below

pub returns-in_ok-state-in-GetStatic-clause-does : goal.returns-in_ok-state-in-GetStatic-clause-does
returns-in_ok-state-in-GetStatic-clause-does g c context told =
    comes_left context c.initialising.new.isolate c.initialising.new.stack c.does-in-GetStatic.result c.args.told.object c.in_ok-state-in-GetStatic.state _ c.initialising.ensures.frame told.object c.does-in-GetStatic.ensures.object c.does-in-GetStatic.ensures.after
    (c.in_ok-state-in-GetStatic.ensures.does context (told_for context c.args.isolate.now c.args.told told))
