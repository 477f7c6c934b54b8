use Rattle.std.proofs.Common.{◌≡◌, sym, ap, ◌∙◌}
use Rattle.mvm_layout.specs.Pool.{member}
use Rattle.mvm_set.specs.declared.class.Lineage.{Lineage}
use Rattle.mvm_isolate.specs.Members.{or_verify}
use Rattle.mvm_invoke.specs.Calls.{class_of_reference}
use Rattle.mvm_invoke.proofs.Referring.{referred_at}
use Rattle.mvm_invoke.proofs.targets.referred.Goals as goal

pub returns-in-Some-class_of_reference : goal.returns-in-Some-class_of_reference
returns-in-Some-class_of_reference c =
    let e : c.get.result.now ≡ c.class.result.now = (let k = c.get.ensures in cc) in
    ap or_verify c.in-Some-class_of_reference.ensures
    ∙ ap (λ (class : Lineage). or_verify (class_of_reference class (member class.file.pool c.args.index))) e
    ∙ sym (referred_at c.args.isolate.now c.args.stack.now c.args.index c.in-Some.key c.class.result.now (sym c.in-Some.ensures) c.requires.method c.requires.keys c.class.ensures.value)

pub returns-in-None-class_of_reference : goal.returns-in-None-class_of_reference
returns-in-None-class_of_reference c =
    let e : c.get.result.now ≡ c.class.result.now = (let k = c.get.ensures in cc) in
    ap or_verify c.in-None-class_of_reference.ensures
    ∙ ap (λ (class : Lineage). or_verify (class_of_reference class (member class.file.pool c.args.index))) e
    ∙ sym (referred_at c.args.isolate.now c.args.stack.now c.args.index c.in-Some.key c.class.result.now (sym c.in-Some.ensures) c.requires.method c.requires.keys c.class.ensures.value)
