use Rattle.std.proofs.Common.{Ok, ap, sym, ◌∙◌}
use Rattle.mvm_frame.specs.Calls.{framed}
use Rattle.mvm_starting.proofs.Taking.{framed_some, given, never_refused, stores, with_locals}
use Rattle.mvm_starting.proofs.firsts.set_argument.Goals as goal

pub unreachable-requires : goal.unreachable-requires
unreachable-requires c = never_refused _ c.in-Err.field-0 _ (framed_some c.args.stack.now.rest.below c.requires.frame _ ∙ stores c.args.object c.args.stack.now.rest.locals c.requires.locals c.requires.unset) c.in-Err.ensures.does

pub returns-clause-rest : goal.returns-clause-rest
returns-clause-rest c =
    c.in-Ok.ensures.rest
    ∙ with_locals c.args.stack.now.rest (given _ _ _ c.in-Ok.ensures.does (framed_some c.args.stack.now.rest.below c.requires.frame _ ∙ stores c.args.object c.args.stack.now.rest.locals c.requires.locals c.requires.unset))
