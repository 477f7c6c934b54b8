use Rattle.mvm_insn.proofs.Inside.{insn-inside}
use Rattle.mvm_insn.proofs.Keys.{insn-keys}
use Rattle.mvm_insn.proofs.laws.insn_law.Goals as goal

pub returns-clause-inside : goal.returns-clause-inside
returns-clause-inside c = insn-inside

pub returns-clause-keys : goal.returns-clause-keys
returns-clause-keys c = insn-keys
