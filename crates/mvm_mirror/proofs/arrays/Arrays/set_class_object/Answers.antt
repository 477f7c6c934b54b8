use Rattle.mvm_mirror.proofs.ArrayRows.{kept_set, object_set, shapes_stay}
use Rattle.mvm_mirror.proofs.arrays.Arrays.set_class_object.Goals as goal

pub invariant_of-self : goal.invariant_of-self
invariant_of-self c =
    let w = c.set_object.ensures in
    kept_set c.self.inside.numbers c.self.inside.rows.items c.set_object.new.rows.items c.args.number c.args.object w.0 c.self.invariant w.1 w.2

pub returns-clause-objects : goal.returns-clause-objects
returns-clause-objects c =
    let w = c.set_object.ensures in
    rw (← c.self.view_is) (λ shape k. object_set c.self.inside.rows.items c.set_object.new.rows.items c.args.number c.args.object w.0 w.1 w.2 shape k)

pub returns-clause-shapes : goal.returns-clause-shapes
returns-clause-shapes c =
    let w = c.set_object.ensures in
    rw (← c.self.view_is) (shapes_stay c.self.inside.rows.items c.set_object.new.rows.items c.args.number c.args.object w.0 w.1 w.2)
