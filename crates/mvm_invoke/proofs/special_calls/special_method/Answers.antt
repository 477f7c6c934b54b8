use Rattle.std.proofs.Common.{◌≡◌, Some, false, sym, ap, subst, ◌∙◌}
use Rattle.std.specs.Prelude.{Result, IfErr}
use Rattle.mvm_base.specs.Answers.{Fails}
use Rattle.mvm_member.specs.Members.{MemberName}
use Rattle.mvm_isolate.specs.Numbered.{look_of}
use Rattle.mvm_isolate.specs.declared.stop.Stop.{Stop}
use Rattle.mvm_isolate.specs.declared.stop.Stop.TheVariants.{OutOfMemory}
use Rattle.mvm_current.specs.Keys.{top_named}
use Rattle.mvm_invoke.specs.Calls.{is_constructor}
use Rattle.mvm_invoke.proofs.Invoking.{special_else}
use Rattle.mvm_invoke.proofs.special_calls.special_method.Goals as goal

pub returns-else-is_constructor-clause-err : goal.returns-else-is_constructor-clause-err
returns-else-is_constructor-clause-err g c member is =
    let k : Some c.in-Some.member ≡ Some member = c.in-Some.ensures ∙ is in
    let e : c.in-Some.member ≡ member = cc in
    let other : is_constructor member ≡ false = sym (c.if-is_constructor.ensures ∙ ap (λ (m : MemberName). is_constructor m) e) in
    subst (λ (d : Result MemberName Stop). IfErr c.special_selected.result (λ stop. Fails OutOfMemory stop d))
    (sym (special_else (look_of c.args.isolate.now) c.args.index (c.args.method.now, member) (top_named c.args.isolate.now c.args.stack.now) other)) (c.special_selected.ensures.err member)
