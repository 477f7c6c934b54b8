use Rattle.std.proofs.Common.{subst, ◌∙◌, sym}
use Rattle.mvm_base.specs.Answers.{Fails}
use Rattle.mvm_classfile.specs.Reading.{reading}
use Rattle.mvm_table.specs.Load.{called}
use Rattle.mvm_table.specs.declared.fault.LoadFault.{LoadFault}
use Rattle.mvm_table.specs.declared.fault.LoadFault.TheVariants.{OutOfMemory}
use Rattle.mvm_table.proofs.Read.{is_named, is_wrong, is_faulty}
use Rattle.mvm_table.proofs.find.read_as.Goals as goal

pub returns-then-is_called-clause-answer : goal.returns-then-is_called-clause-answer
returns-then-is_called-clause-answer g c = is_named _ _ _ c.in-Ok.ensures.says (sym c.is_called.ensures ∙ c.if-is_called.true)

pub returns-else-is_called-clause-answer : goal.returns-else-is_called-clause-answer
returns-else-is_called-clause-answer g c = λ h. is_wrong _ _ _ c.in-Ok.ensures.says (sym c.is_called.ensures ∙ c.if-is_called.false)

pub returns-in-Err-clause-answer : goal.returns-in-Err-clause-answer
returns-in-Err-clause-answer g c =
    subst (λ (f : LoadFault). Fails OutOfMemory f (called c.args.name.now (reading c.args.bytes.now))) (sym c.unread.ensures) (is_faulty c.args.bytes.now c.args.name.now c.in-Err.fault c.in-Err.ensures.says)
