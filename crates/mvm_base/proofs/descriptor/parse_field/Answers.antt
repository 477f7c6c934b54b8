use Rattle.mvm_base.proofs.Faults.{field_told_fault, field_fault_told}
use Rattle.mvm_base.proofs.Descriptors.{field_answers, field_answers_only}
use Rattle.mvm_base.proofs.descriptor.parse_field.Goals as goal

pub returns-clause-found : goal.returns-clause-found
returns-clause-found c = field_answers c.args.text.now c.whole_field.result c.whole_field.ensures

pub returns-clause-only : goal.returns-clause-only
returns-clause-only c = λ field h e. field_answers_only c.args.text.now c.whole_field.result field c.whole_field.ensures h e

pub returns-clause-fault : goal.returns-clause-fault
returns-clause-fault c = field_told_fault c.args.text.now c.whole_field.result c.whole_field.ensures

pub returns-clause-fault_only : goal.returns-clause-fault_only
returns-clause-fault_only c = field_fault_told c.args.text.now c.whole_field.result c.whole_field.ensures
