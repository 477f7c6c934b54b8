use Rattle.std.specs.Prelude.{Some}
use Rattle.mvm_mirror.specs.Arrays.{changed, objects_of, shapes_of}
use Rattle.mvm_isolate.specs.Numbered.{named}
use Rattle.mvm_isolate.proofs.ArrayTypes.{shape_is}
use Rattle.mvm_isolate.proofs.Arraying.{grows_rows, named_rows, sound_rows}
use Rattle.mvm_isolate.proofs.Held.{held}
use Rattle.mvm_isolate.proofs.isolate.Isolate.set_array_object.Goals as goal

pub invariant_of-self : goal.invariant_of-self
invariant_of-self c = sound_rows (held c.self.inside) c.set_class_object.new.self c.set_class_object.ensures.shapes c.self.inside.known c.self.invariant

pub returns-clause-named : goal.returns-clause-named
unfolding named
returns-clause-named c =
    let n = held c.self.inside in
    let shape = shape_is (shapes_of n.arrays) c.args.row c.shape-shape.result.now c.shape-shape.ensures.value in
    let objects = c.set_class_object.ensures.objects c.shape-shape.result.now c.shape-shape.ensures.numbered in
    rw (← c.self.view_is, shape)
    (named_rows n c.set_class_object.new.self c.set_class_object.ensures.shapes (changed c.shape-shape.result.now (Some c.args.object) (objects_of n.arrays)) objects)

pub returns-clause-grows : goal.returns-clause-grows
returns-clause-grows c = rw (← c.self.view_is) (grows_rows (held c.self.inside) c.set_class_object.new.self c.set_class_object.ensures.shapes)
