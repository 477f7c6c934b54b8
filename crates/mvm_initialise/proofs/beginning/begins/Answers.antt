use Rattle.std.proofs.Common.{◌≡◌, ◌≢◌, ◌∙◌, sym, subst}
use Rattle.mvm_mirror.specs.States.{begun}
use Rattle.mvm_mirror.specs.declared.state.Begin.TheVariants as begin
use Rattle.mvm_mirror.specs.declared.state.InitState.{InitState}
use Rattle.mvm_isolate.specs.Numbered.{look_of, name_at, named}
use Rattle.mvm_initialise.proofs.Running.{begins_other, runs_first}
use Rattle.mvm_initialise.proofs.beginning.begins.Goals as goal

pub run-requires-clause-state : goal.run-requires-clause-state
run-requires-clause-state c = sym c.state.ensures ∙ runs_first c.args.thread c.state.result (sym c.in-Run.ensures)

pub returns-in-Done-clause-does : goal.returns-in-Done-clause-does
returns-in-Done-clause-does c =
    begins_other (look_of c.args.isolate.now) c.args.thread (name_at c.args.isolate.now c.args.mirror) c.class-class.result.now (named c.args.isolate.now) c.args.room begin.Done c.class-class.ensures.value
    (subst (λ (state : InitState). begun c.args.thread state ≡ begin.Done) c.state.ensures (sym c.in-Done.ensures)) (λ e. cc)

pub returns-in-Wait-clause-does : goal.returns-in-Wait-clause-does
returns-in-Wait-clause-does c =
    begins_other (look_of c.args.isolate.now) c.args.thread (name_at c.args.isolate.now c.args.mirror) c.class-class.result.now (named c.args.isolate.now) c.args.room begin.Wait c.class-class.ensures.value
    (subst (λ (state : InitState). begun c.args.thread state ≡ begin.Wait) c.state.ensures (sym c.in-Wait.ensures)) (λ e. cc)

pub returns-in-Erroneous-clause-does : goal.returns-in-Erroneous-clause-does
returns-in-Erroneous-clause-does c =
    begins_other (look_of c.args.isolate.now) c.args.thread (name_at c.args.isolate.now c.args.mirror) c.class-class.result.now (named c.args.isolate.now) c.args.room begin.Erroneous c.class-class.ensures.value
    (subst (λ (state : InitState). begun c.args.thread state ≡ begin.Erroneous) c.state.ensures (sym c.in-Erroneous.ensures)) (λ e. cc)
