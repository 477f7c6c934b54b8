use Rattle.std.proofs.Common.{◌∙◌, sym}
use Rattle.mvm_isolate.specs.Numbered.{look_of, named}
use Rattle.mvm_throwing.proofs.Going.{when_whole, when_wrapped}
use Rattle.mvm_throwing.proofs.throwing.through_initialiser.Goals as goal

pub wrapped-requires : goal.wrapped-requires
wrapped-requires c = record { words = rw (when_wrapped (look_of c.args.isolate.now) c.args.isolate.now c.args.key c.args.pc c.args.object (named c.args.isolate.now) _ c.requires.method c.requires.stage c.type_at.ensures.value (sym c.wraps.ensures ∙ c.if-wraps.true)) at c.requires.words }

pub returns-then-wraps-clause-does : goal.returns-then-wraps-clause-does
returns-then-wraps-clause-does c = when_wrapped (look_of c.args.isolate.now) c.args.isolate.now c.args.key c.args.pc c.args.object (named c.args.isolate.now) _ c.requires.method c.requires.stage c.type_at.ensures.value (sym c.wraps.ensures ∙ c.if-wraps.true) ∙ c.wrapped.ensures.does

pub returns-clause-does : goal.returns-clause-does
returns-clause-does c = when_whole (look_of c.args.isolate.now) c.args.isolate.now c.args.key c.args.pc c.args.object (named c.args.isolate.now) _ c.requires.method c.requires.stage c.type_at.ensures.value (sym c.wraps.ensures ∙ c.if-wraps.false)
