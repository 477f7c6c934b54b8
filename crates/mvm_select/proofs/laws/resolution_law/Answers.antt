use Rattle.mvm_select.proofs.Meaning.{method_law, interface_method_law}
use Rattle.mvm_select.proofs.laws.resolution_law.Goals as goal

pub returns-clause-class : goal.returns-clause-class
returns-clause-class c = method_law

pub returns-clause-interface : goal.returns-clause-interface
returns-clause-interface c = interface_method_law
