use Rattle.std.proofs.Common.{◌≡◌, ap, ◌∙◌}
use Rattle.mvm_isolate.specs.Numbered.{name_at}
use Rattle.mvm_set.specs.declared.class.Lineage.{Lineage}
use Rattle.mvm_instance.proofs.Sets.{class_of_set}
use Rattle.mvm_instance.proofs.looked.set_of.Goals as goal

pub returns-clause-set : goal.returns-clause-set
returns-clause-set c =
    let n = c.args.isolate.now in
    let is : c.class.result.now.set ≡ n.env.launch.set = class_of_set n.files n.env.launch.set (name_at n c.thread_class.result) c.class.result.now c.class.ensures.value in
    c.set.ensures ∙ ap (λ (class : Lineage). class.set) c.get.ensures ∙ is
