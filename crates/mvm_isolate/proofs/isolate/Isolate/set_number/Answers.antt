use Rattle.mvm_isolate.proofs.Held.{held}
use Rattle.mvm_isolate.proofs.Writing.{named_written, sound_written}
use Rattle.mvm_isolate.proofs.isolate.Isolate.set_number.Goals as goal

pub invariant_of-self : goal.invariant_of-self
invariant_of-self c =
    sound_written (held c.self.inside) c.put.new.self c.args.object c.args.place c.args.number c.put.ensures.state c.self.inside.known c.self.invariant

pub returns-clause-named : goal.returns-clause-named
returns-clause-named c = rw (← c.self.view_is) (named_written (held c.self.inside) c.put.new.self c.args.object c.args.place c.args.number c.put.ensures.state)
