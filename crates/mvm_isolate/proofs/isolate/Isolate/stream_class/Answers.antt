use Rattle.mvm_mirror.specs.Kept.{classes_of}
use Rattle.mvm_isolate.specs.Thrown.{STREAM}
use Rattle.mvm_isolate.proofs.Loading.{name_numbered, number_within}
use Rattle.mvm_isolate.proofs.isolate.Isolate.stream_class.Goals as goal

pub returns-clause-there : goal.returns-clause-there
returns-clause-there c = rw (← c.self.view_is) (number_within STREAM (classes_of c.self.inside.mirrors) c.self.inside.known.stream c.self.invariant.known.stream)

pub returns-clause-name : goal.returns-clause-name
returns-clause-name c = rw (← c.self.view_is) (name_numbered STREAM (classes_of c.self.inside.mirrors) c.self.inside.known.stream c.self.invariant.known.stream)
