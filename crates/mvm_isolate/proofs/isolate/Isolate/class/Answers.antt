use Rattle.std.proofs.Common.{ap}
use Rattle.mvm_mirror.specs.Kept.{classes_of}
use Rattle.mvm_set.specs.declared.class.Lineage.{Lineage}
use Rattle.mvm_isolate.specs.Faults.{looked_up}
use Rattle.mvm_isolate.proofs.Held.{held}
use Rattle.mvm_isolate.proofs.Loading.{look_is, of_set, own_is}
use Rattle.mvm_isolate.proofs.LookUps.{look_class}
use Rattle.mvm_isolate.proofs.isolate.Isolate.class.Goals as goal

pub returns-clause-value : goal.returns-clause-value
returns-clause-value c =
    let n = held c.self.inside in
    let classes = classes_of n.mirrors in
    let loaded = of_set n.files n.env.launch.set classes c.args.mirror c.class.result.now c.self.invariant.classes c.class.ensures.value in
    rw (← c.self.view_is, look_class) (ap (looked_up {A = Lineage}) (look_is n.files n.env.launch.set classes c.args.mirror c.class.result.now loaded c.class.ensures.value))

pub returns-clause-name : goal.returns-clause-name
returns-clause-name c =
    let n = held c.self.inside in
    let classes = classes_of n.mirrors in
    let loaded = of_set n.files n.env.launch.set classes c.args.mirror c.class.result.now c.self.invariant.classes c.class.ensures.value in
    rw (← c.self.view_is) (own_is n.files n.env.launch.set classes c.args.mirror c.class.result.now loaded c.class.ensures.value)

pub returns-clause-loaded : goal.returns-clause-loaded
returns-clause-loaded c =
    let n = held c.self.inside in
    let loaded = of_set n.files n.env.launch.set (classes_of n.mirrors) c.args.mirror c.class.result.now c.self.invariant.classes c.class.ensures.value in
    rw (← c.self.view_is) loaded.loaded
