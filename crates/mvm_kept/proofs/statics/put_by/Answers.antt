use Rattle.mvm_object.proofs.Points.{keys_after}
use Rattle.mvm_kept.proofs.statics.put_by.Goals as goal

pub returns-then-goes-clause-keys : goal.returns-then-goes-clause-keys
returns-then-goes-clause-keys g c =
    keys_after c.args.isolate.now c.put_kept.new.isolate c.args.stack.now c.put_kept.new.stack c.put_kept.ensures.grows c.put_kept.ensures.below c.requires.keys
