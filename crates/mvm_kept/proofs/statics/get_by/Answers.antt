use Rattle.mvm_object.proofs.Points.{keys_after}
use Rattle.mvm_kept.proofs.statics.get_by.Goals as goal

pub returns-then-goes-clause-keys : goal.returns-then-goes-clause-keys
returns-then-goes-clause-keys g c =
    keys_after c.args.isolate.now c.get_kept.new.isolate c.args.stack.now c.get_kept.new.stack c.get_kept.ensures.grows c.get_kept.ensures.below c.requires.keys
