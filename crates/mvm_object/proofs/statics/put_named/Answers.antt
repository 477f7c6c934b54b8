use Rattle.mvm_object.proofs.Points.{keys_after}
use Rattle.mvm_object.proofs.statics.put_named.Goals as goal

pub returns-in_err-static_popped-in-Goes-clause-keys : goal.returns-in_err-static_popped-in-Goes-clause-keys
returns-in_err-static_popped-in-Goes-clause-keys g c =
    keys_after c.once_initialised.new.isolate c.static_popped.new.isolate c.once_initialised.new.stack c.static_popped.new.stack c.static_popped.ensures.grows c.static_popped.ensures.below c.once_initialised.ensures.keys

pub returns-in_ok-static_popped-in-Goes-clause-keys : goal.returns-in_ok-static_popped-in-Goes-clause-keys
returns-in_ok-static_popped-in-Goes-clause-keys g c =
    keys_after c.once_initialised.new.isolate c.static_popped.new.isolate c.once_initialised.new.stack c.static_popped.new.stack c.static_popped.ensures.grows c.static_popped.ensures.below c.once_initialised.ensures.keys
