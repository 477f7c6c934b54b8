use Rattle.mvm_base.proofs.Faults.{method_told_fault, method_fault_told}
use Rattle.mvm_base.proofs.Methods.{method_answers, method_answers_only, method_answers_few}
use Rattle.mvm_base.proofs.descriptor.parse_method.Goals as goal

pub returns-clause-found : goal.returns-clause-found
returns-clause-found c = method_answers c.args.text.now c.whole_method.result c.whole_method.ensures

pub returns-clause-only : goal.returns-clause-only
returns-clause-only c = λ method h e. method_answers_only c.args.text.now c.whole_method.result method c.whole_method.ensures h e

pub returns-clause-short : goal.returns-clause-short
returns-clause-short c = method_answers_few c.args.text.now c.whole_method.result c.requires c.whole_method.ensures

pub returns-clause-fault : goal.returns-clause-fault
returns-clause-fault c = method_told_fault c.args.text.now c.whole_method.result c.whole_method.ensures

pub returns-clause-fault_only : goal.returns-clause-fault_only
returns-clause-fault_only c = method_fault_told c.args.text.now c.whole_method.result c.whole_method.ensures
