use Rattle.std.proofs.Common.{◌∙◌, Ok, ap, sym}
use Rattle.std.specs.Option.{option_copied}
use Rattle.mvm_isolate.specs.Numbered.{name_at}
use Rattle.mvm_object.specs.Coming.{point_of}
use Rattle.mvm_object.specs.Going.{Went}
use Rattle.mvm_starting.proofs.Supers.{not_found, not_static}
use Rattle.mvm_starting.proofs.initialising.initialiser_called.Goals as goal

pub returns-else-is_static-clause-does : goal.returns-else-is_static-clause-does
returns-else-is_static-clause-does c = λ context is.
    not_static context (name_at c.args.isolate.now c.args.mirror) (option_copied c.args.member) c.in-Some.member.now (point_of c.args.isolate.now c.args.stack.now) (ap option_copied c.in-Some.is) (sym c.is_static.ensures ∙ c.if-is_static.false)
    ∙ ap (λ (went : Went). Ok went) (sym (c.initialised.ensures.does context))

pub returns-in-None-clause-does : goal.returns-in-None-clause-does
returns-in-None-clause-does c = λ context is.
    not_found context (name_at c.args.isolate.now c.args.mirror) (option_copied c.args.member) (point_of c.args.isolate.now c.args.stack.now) (ap option_copied c.in-None.is)
    ∙ ap (λ (went : Went). Ok went) (sym (c.initialised-in-None.ensures.does context))
