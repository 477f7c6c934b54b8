use Rattle.std.proofs.Common.{Some, refl}
use Rattle.mvm_mirror.proofs.Changed.{object_set, classes_set, kept_set}
use Rattle.mvm_mirror.proofs.mirrors.Mirrors.set_class_object.Goals as goal

pub invariant_of-self : goal.invariant_of-self
invariant_of-self c =
    let w = c.set_object.ensures in
    rw w.2 (kept_set _ c.self.inside.mirrors.items c.args.mirror w.0 (record w.0 { object = Some c.args.object }) c.self.invariant w.1 refl refl)

pub returns-clause-named : goal.returns-clause-named
returns-clause-named c =
    let w = c.set_object.ensures in
    rw (← c.self.view_is, w.2) (λ name k. object_set c.self.inside.mirrors.items c.args.mirror w.0 c.args.object name w.1 k)

pub returns-clause-classes : goal.returns-clause-classes
returns-clause-classes c =
    let w = c.set_object.ensures in
    rw (← c.self.view_is, w.2) (classes_set c.self.inside.mirrors.items c.args.mirror w.0 (record w.0 { object = Some c.args.object }) w.1 refl)
