use Rattle.std.proofs.Common.{◌∙◌, ap, sym, subst, Result}
use Rattle.mvm_base.specs.Answers.{AnswersUnless}
use Rattle.mvm_table.specs.Link.{linked_files}
use Rattle.mvm_table.specs.declared.fault.LoadFault.{LoadFault}
use Rattle.mvm_table.specs.declared.fault.LoadFault.TheVariants.{OutOfMemory}
use Rattle.mvm_set.specs.declared.class.Lineage.{Lineage}
use Rattle.mvm_table.proofs.Linking.{linked_class}
use Rattle.mvm_table.proofs.table.Table.linked.Goals as goal

pub returns-clause-answer : goal.returns-clause-answer
returns-clause-answer g c = λ name n.
    subst (λ (d : Result (Unit {0}) LoadFault). AnswersUnless OutOfMemory c.check_files.result d)
    (ap linked_files (c.checked.ensures.value ∙ ap (λ (class : Lineage). class.checked) c.get.ensures) ∙ sym (linked_class c.args.self.now.files c.args.class.now name c.requires n))
    c.check_files.ensures
