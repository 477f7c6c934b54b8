use Rattle.std.proofs.Common.{◌∙◌, Ok, ap, sym}
use Rattle.mvm_isolate.specs.Numbered.{name_at}
use Rattle.mvm_object.specs.Coming.{point_of}
use Rattle.mvm_object.specs.Going.{Went}
use Rattle.mvm_starting.proofs.Supers.{at_last}
use Rattle.mvm_starting.proofs.initialising.initialise.Goals as goal

pub returns-then-pc-eq-LAST-clause-does : goal.returns-then-pc-eq-LAST-clause-does
returns-then-pc-eq-LAST-clause-does g c = λ context is.
    at_last context (name_at c.args.isolate.now c.args.mirror) (point_of c.args.isolate.now c.args.stack.now) (sym c.pc.ensures ∙ c.if-pc-eq-LAST.true)
    ∙ ap (λ (went : Went). Ok went) (sym (c.initialised.ensures.does context))
