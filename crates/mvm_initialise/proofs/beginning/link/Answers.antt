use Rattle.std.proofs.Common.{◌≡◌, ◌∙◌, Ok, refl, ap, subst}
use Rattle.mvm_base.specs.Answers.{AnswersUnless}
use Rattle.mvm_mirror.specs.States.{begun}
use Rattle.mvm_mirror.specs.declared.state.Begin.{Begin}
use Rattle.mvm_isolate.specs.Initialise.{linked_first}
use Rattle.mvm_isolate.specs.Numbered.{look_of, name_at}
use Rattle.mvm_isolate.specs.declared.stop.Stop.TheVariants as stop
use Rattle.mvm_initialise.proofs.beginning.link.Goals as goal

pub returns-in-Run : goal.returns-in-Run
returns-in-Run g c = subst (λ (b : Begin). AnswersUnless stop.OutOfMemory c.linked.result (linked_first (look_of c.args.isolate.now) (name_at c.args.isolate.now c.args.mirror) b)) (c.in-Run.ensures ∙ ap (begun c.args.thread) c.state.ensures) c.linked.ensures

pub returns-in-Done : goal.returns-in-Done
returns-in-Done g c = subst (λ (b : Begin). linked_first (look_of c.args.isolate.now) (name_at c.args.isolate.now c.args.mirror) b ≡ Ok tt) (c.in-Done.ensures ∙ ap (begun c.args.thread) c.state.ensures) refl

pub returns-in-Wait : goal.returns-in-Wait
returns-in-Wait g c = subst (λ (b : Begin). linked_first (look_of c.args.isolate.now) (name_at c.args.isolate.now c.args.mirror) b ≡ Ok tt) (c.in-Wait.ensures ∙ ap (begun c.args.thread) c.state.ensures) refl

pub returns-in-Erroneous : goal.returns-in-Erroneous
returns-in-Erroneous g c = subst (λ (b : Begin). linked_first (look_of c.args.isolate.now) (name_at c.args.isolate.now c.args.mirror) b ≡ Ok tt) (c.in-Erroneous.ensures ∙ ap (begun c.args.thread) c.state.ensures) refl
