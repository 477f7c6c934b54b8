use Rattle.std.proofs.Common.{◌∙◌, ℕ, List, Option, ap, sym, subst}
use Rattle.std.specs.Prelude.{codes}
use Rattle.mvm_layout.specs.declared.parts.Code.{Code}
use Rattle.mvm_isolate.specs.Numbered.{name_at}
use Rattle.mvm_current.specs.Frames.{method}
use Rattle.mvm_object.specs.Coming.{point_of}
use Rattle.mvm_starting.specs.Initialising.{initialiser_framed}
use Rattle.mvm_starting.specs.Left.{LeavesState}
use Rattle.mvm_starting.proofs.initialising.initialiser_framed.Goals as goal

pub returns-in-Some-key_of-clause-does : goal.returns-in-Some-key_of-clause-does
returns-in-Some-key_of-clause-does c = λ context is.
    subst (λ (code : Option Code). LeavesState c.code_entered.result (initialiser_framed context (name_at c.args.isolate.now c.args.mirror) c.args.member.now code (point_of c.args.isolate.now c.args.stack.now)) c.args.isolate.now c.code_entered.new.stack context.object)
    (sym c.in-Some.is)
    (c.code_entered.ensures.does context (name_at c.args.isolate.now c.args.mirror) c.args.member.now is c.in-Some-key_of.ensures.lock
    (c.in-Some-key_of.ensures.runs 0
    ∙ ap (λ (name : List ℕ). method (name_at c.args.isolate.now c.args.mirror) name c.args.desc.now) c.requires.name
    ∙ ap (λ (desc : List ℕ). method (name_at c.args.isolate.now c.args.mirror) (codes "<clinit>") desc) c.requires.desc))
