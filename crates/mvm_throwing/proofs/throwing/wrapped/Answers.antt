use Rattle.mvm_isolate.specs.Numbered.{named}
use Rattle.mvm_throwing.proofs.Sufficing.{not_text, two_fields}
use Rattle.mvm_throwing.proofs.throwing.wrapped.Goals as goal

pub set_number-requires-clause-place : goal.set_number-requires-clause-place
set_number-requires-clause-place c = two_fields _ (named c.args.isolate.now) (c.in-Ok.error, named c.new_object.new.self) c.in-Ok.ensures.does

pub set_number-requires-clause-sort : goal.set_number-requires-clause-sort
set_number-requires-clause-sort c = not_text _ (named c.args.isolate.now) (c.in-Ok.error, named c.new_object.new.self) c.in-Ok.ensures.does
