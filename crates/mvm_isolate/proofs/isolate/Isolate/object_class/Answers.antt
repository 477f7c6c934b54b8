use Rattle.mvm_mirror.specs.Kept.{classes_of}
use Rattle.mvm_isolate.specs.Types.{OBJECT}
use Rattle.mvm_isolate.proofs.Loading.{name_numbered, number_within}
use Rattle.mvm_isolate.proofs.isolate.Isolate.object_class.Goals as goal

pub returns-clause-there : goal.returns-clause-there
returns-clause-there c = rw (← c.self.view_is) (number_within OBJECT (classes_of c.self.inside.mirrors) c.self.inside.known.object c.self.invariant.known.object)

pub returns-clause-name : goal.returns-clause-name
returns-clause-name c = rw (← c.self.view_is) (name_numbered OBJECT (classes_of c.self.inside.mirrors) c.self.inside.known.object c.self.invariant.known.object)
