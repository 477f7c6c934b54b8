use Rattle.mvm_mirror.specs.Kept.{classes_of}
use Rattle.std.specs.Prelude.{slice_index}
use Rattle.mvm_isolate.specs.Thrown.{name_of_thrown, place_of_thrown}
use Rattle.mvm_isolate.proofs.Loading.{name_numbered, number_within}
use Rattle.mvm_isolate.proofs.isolate.Isolate.thrown_class.Goals as goal

pub returns-clause-there : goal.returns-clause-there
returns-clause-there c =
    let classes = classes_of c.self.inside.mirrors in
    rw (← c.self.view_is, c.as_slice.ensures, c.place_of_thrown.ensures)
    (number_within (name_of_thrown c.args.thrown) classes (slice_index c.self.inside.known.thrown (place_of_thrown c.args.thrown)) (c.self.invariant.known.thrown.named c.args.thrown))

pub returns-clause-name : goal.returns-clause-name
returns-clause-name c =
    let classes = classes_of c.self.inside.mirrors in
    rw (← c.self.view_is, c.as_slice.ensures, c.place_of_thrown.ensures)
    (name_numbered (name_of_thrown c.args.thrown) classes (slice_index c.self.inside.known.thrown (place_of_thrown c.args.thrown)) (c.self.invariant.known.thrown.named c.args.thrown))
