use Rattle.std.proofs.Common.{◌≡◌, ◌∙◌, ℕ, length, Ok, ap, arith}
use Rattle.mvm_isolate.specs.Isolate.{Isolate}
use Rattle.mvm_isolate.specs.Numbered.{named}
use Rattle.mvm_initialise.specs.Arguments.{arguments_made}
use Rattle.mvm_initialise.proofs.Calling.{array_behind, row_stays, shape_stays}
use Rattle.mvm_initialise.proofs.arguments.entered_with.Goals as goal

pub make_arguments-arguments-requires-clause-row : goal.make_arguments-arguments-requires-clause-row
make_arguments-arguments-requires-clause-row c = row_stays c.args.isolate.now c.set_monitor.new.self c.args.row c.requires.row c.set_monitor.ensures.grows

pub make_arguments-arguments-requires-clause-shape : goal.make_arguments-arguments-requires-clause-shape
make_arguments-arguments-requires-clause-shape c = shape_stays c.args.isolate.now c.set_monitor.new.self c.args.row c.requires.row c.set_monitor.ensures.grows ∙ c.requires.shape

pub returns-clause-lock_there : goal.returns-clause-lock_there
returns-clause-lock_there c =
    let same : length (named c.set_monitor.new.self).heap.objects ≡ length (named c.args.isolate.now).heap.objects = ap (λ (s : Isolate). length s.heap.objects) c.set_monitor.ensures.named in
    let behind : c.make_arguments-arguments.result ≡ length (named c.set_monitor.new.self).heap.objects =
    array_behind c.args.texts.now c.make_arguments-arguments.result (named c.set_monitor.new.self) (named c.make_arguments-arguments.new.isolate) c.make_arguments-arguments.ensures.does in
    omega (arith, same, behind, c.requires.there, c.make_arguments-arguments.ensures.there)
