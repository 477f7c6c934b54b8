use Rattle.mvm_isolate.proofs.Keeping.{grows_then}
use Rattle.mvm_object.proofs.Points.{keys_after}
use Rattle.mvm_object.proofs.objects.make_named.Goals as goal

pub returns-in_err-object_pushed-in-Goes-clause-keys : goal.returns-in_err-object_pushed-in-Goes-clause-keys
returns-in_err-object_pushed-in-Goes-clause-keys g c =
    keys_after c.once_initialised.new.isolate c.object_pushed.new.isolate c.once_initialised.new.stack c.object_pushed.new.stack c.object_pushed.ensures.grows c.object_pushed.ensures.below c.once_initialised.ensures.keys

pub returns-in_ok-object_pushed-in-Goes-clause-keys : goal.returns-in_ok-object_pushed-in-Goes-clause-keys
returns-in_ok-object_pushed-in-Goes-clause-keys g c =
    keys_after c.once_initialised.new.isolate c.object_pushed.new.isolate c.once_initialised.new.stack c.object_pushed.new.stack c.object_pushed.ensures.grows c.object_pushed.ensures.below c.once_initialised.ensures.keys

pub returns-in_ok-object_pushed-in-Goes-clause-grows : goal.returns-in_ok-object_pushed-in-Goes-clause-grows
returns-in_ok-object_pushed-in-Goes-clause-grows g c = grows_then c.args.isolate.now c.once_initialised.new.isolate c.object_pushed.new.isolate c.once_initialised.ensures.grows c.object_pushed.ensures.grows
