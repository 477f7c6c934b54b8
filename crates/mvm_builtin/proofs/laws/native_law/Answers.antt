use Rattle.mvm_builtin.proofs.Computed.{all_called}
use Rattle.mvm_builtin.proofs.Numbers.{at, only, apart, methods_called}
use Rattle.mvm_builtin.proofs.laws.native_law.Goals as goal

pub returns : goal.returns
returns c = record { at = at; only = only; apart = apart; methods = λ class file e. methods_called class file all_called e }
