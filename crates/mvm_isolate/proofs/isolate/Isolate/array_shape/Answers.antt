use Rattle.std.proofs.Common.{ap, sym}
use Rattle.mvm_isolate.specs.Numbered.{or_objects, shape_in}
use Rattle.mvm_isolate.proofs.isolate.Isolate.array_shape.Goals as goal

pub returns : goal.returns
unfolding shape_in
returns c = rw (← c.self.view_is) (sym (ap or_objects c.shape.ensures.value))
