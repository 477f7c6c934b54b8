use Rattle.mvm_mirror.specs.Arrays.{shapes_of}
use Rattle.mvm_isolate.specs.Numbered.{named}
use Rattle.mvm_isolate.proofs.ArrayTypes.{shape_is}
use Rattle.mvm_isolate.proofs.isolate.Isolate.has_array_object.Goals as goal

pub returns : goal.returns
unfolding named
returns c =
    let shape = shape_is (shapes_of c.self.inside.arrays) c.args.row c.shape-shape.result.now c.shape-shape.ensures.value in
    rw (← c.self.view_is, shape) (c.class_object.ensures c.shape-shape.result.now c.shape-shape.ensures.numbered)
