use Rattle.mvm_isolate.proofs.Held.{held}
use Rattle.mvm_isolate.proofs.Owning.{sound_owned}
use Rattle.mvm_isolate.proofs.isolate.Isolate.set_monitor.Goals as goal

pub invariant_of-self : goal.invariant_of-self
invariant_of-self c =
    sound_owned (held c.self.inside) c.set_monitor.new.self c.args.object c.args.monitor c.self.inside.known c.set_monitor.ensures.state c.self.invariant
    (record { owner = c.requires.owner; count = c.requires.count })
