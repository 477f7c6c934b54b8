use Rattle.mvm_base.proofs.Faults.{field_law, method_law}
use Rattle.mvm_base.proofs.laws.descriptor_law.Goals as goal

pub returns-clause-field : goal.returns-clause-field
returns-clause-field c = field_law

pub returns-clause-method : goal.returns-clause-method
returns-clause-method c = method_law
