use Rattle.mvm_select.proofs.Meaning.{virtual_law, interface_law, special_law}
use Rattle.mvm_select.proofs.laws.select_law.Goals as goal

pub returns-clause-invokevirtual : goal.returns-clause-invokevirtual
returns-clause-invokevirtual c = virtual_law

pub returns-clause-invokeinterface : goal.returns-clause-invokeinterface
returns-clause-invokeinterface c = interface_law

pub returns-clause-invokespecial : goal.returns-clause-invokespecial
returns-clause-invokespecial c = special_law
