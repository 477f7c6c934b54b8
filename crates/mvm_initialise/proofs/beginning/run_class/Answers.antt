use Rattle.std.proofs.Common.{◌≡◌, ◌∙◌, true, false, All, subst, arith}
use Rattle.mvm_layout.specs.declared.parts.Parts.{Parts}
use Rattle.mvm_isolate.specs.Numbered.{look_of, name_at, named}
use Rattle.mvm_initialise.specs.Constants.{constant_texts, IsShort, IsThrownAt, MayBeSet}
use Rattle.mvm_initialise.proofs.Running.{begins_full, begins_run, begins_thrown}
use Rattle.mvm_initialise.proofs.beginning.run_class.Goals as goal

pub begin_class-requires-clause-fits : goal.begin_class-requires-clause-fits
begin_class-requires-clause-fits c = subst (λ (p : Parts). MayBeSet p (named c.args.isolate.now).heap) (c.parts.ensures.value ∙ c.file.ensures) c.in-Ok.ensures.ok

pub begin_class-requires-clause-short : goal.begin_class-requires-clause-short
begin_class-requires-clause-short c = subst (λ (p : Parts). All IsShort (constant_texts p.pool p.fields)) (c.parts.ensures.value ∙ c.file.ensures) c.in-Ok.ensures.short

pub returns-then-not-room-clause-does : goal.returns-then-not-room-clause-does
returns-then-not-room-clause-does c = λ other.
    let r : c.args.room ≡ false = grind (arith, c.if-not-room.true) in
    rw r (begins_full (look_of c.args.isolate.now) c.args.thread (name_at c.args.isolate.now c.args.mirror) c.args.class.now (named c.args.isolate.now) c.requires.found c.requires.state
    (subst (λ (p : Parts). MayBeSet p (named c.args.isolate.now).heap) (c.parts.ensures.value ∙ c.file.ensures) c.in-Ok.ensures.ok))

pub returns-in-Ok-begin_class-clause-does : goal.returns-in-Ok-begin_class-clause-does
returns-in-Ok-begin_class-clause-does c =
    let r : c.args.room ≡ true = grind (arith, c.if-not-room.false) in
    rw r (begins_run (look_of c.args.isolate.now) c.args.thread (name_at c.args.isolate.now c.args.mirror) c.args.class.now (named c.args.isolate.now) (named c.begin_class.new.isolate) c.requires.found c.requires.state c.in-Ok-begin_class.ensures.does)

pub returns-in-Err-clause-does : goal.returns-in-Err-clause-does
returns-in-Err-clause-does c = λ other.
    begins_thrown (look_of c.args.isolate.now) c.args.thread (name_at c.args.isolate.now c.args.mirror) c.args.class.now (named c.args.isolate.now) c.args.room c.in-Err.stop c.requires.found c.requires.state
    (subst (λ (p : Parts). IsThrownAt p (named c.args.isolate.now).heap c.in-Err.stop) (c.parts.ensures.value ∙ c.file.ensures) (c.in-Err.ensures.fault other))
