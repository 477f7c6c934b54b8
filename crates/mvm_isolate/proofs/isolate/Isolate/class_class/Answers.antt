use Rattle.mvm_mirror.specs.Kept.{classes_of}
use Rattle.mvm_isolate.specs.Types.{CLASS}
use Rattle.mvm_isolate.proofs.Loading.{name_numbered, number_within}
use Rattle.mvm_isolate.proofs.isolate.Isolate.class_class.Goals as goal

pub returns-clause-there : goal.returns-clause-there
returns-clause-there c = rw (← c.self.view_is) (number_within CLASS (classes_of c.self.inside.mirrors) c.self.inside.known.class c.self.invariant.known.class)

pub returns-clause-name : goal.returns-clause-name
returns-clause-name c = rw (← c.self.view_is) (name_numbered CLASS (classes_of c.self.inside.mirrors) c.self.inside.known.class c.self.invariant.known.class)
