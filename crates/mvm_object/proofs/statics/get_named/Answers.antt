use Rattle.mvm_isolate.proofs.Keeping.{grows_then}
use Rattle.mvm_object.proofs.Points.{keys_after}
use Rattle.mvm_object.proofs.statics.get_named.Goals as goal

pub returns-in_err-static_pushed-in-Goes-clause-keys : goal.returns-in_err-static_pushed-in-Goes-clause-keys
returns-in_err-static_pushed-in-Goes-clause-keys g c =
    keys_after c.once_initialised.new.isolate c.static_pushed.new.isolate c.once_initialised.new.stack c.static_pushed.new.stack c.static_pushed.ensures.grows c.static_pushed.ensures.below c.once_initialised.ensures.keys

pub returns-in_ok-static_pushed-in-Goes-clause-keys : goal.returns-in_ok-static_pushed-in-Goes-clause-keys
returns-in_ok-static_pushed-in-Goes-clause-keys g c =
    keys_after c.once_initialised.new.isolate c.static_pushed.new.isolate c.once_initialised.new.stack c.static_pushed.new.stack c.static_pushed.ensures.grows c.static_pushed.ensures.below c.once_initialised.ensures.keys

pub returns-in_ok-static_pushed-in-Goes-clause-grows : goal.returns-in_ok-static_pushed-in-Goes-clause-grows
returns-in_ok-static_pushed-in-Goes-clause-grows g c = grows_then c.args.isolate.now c.once_initialised.new.isolate c.static_pushed.new.isolate c.once_initialised.ensures.grows c.static_pushed.ensures.grows
