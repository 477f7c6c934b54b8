use Rattle.std.proofs.Common.{ℕ, ◌<◌, Some}
use Rattle.std.specs.Prelude.{◌≢◌}
use Rattle.mvm_insn.specs.Opcodes.{mnemonic_of}
use Rattle.mvm_insn.proofs.table.opcode_named.Given as goal

abbrev pub invariant-loop-op : goal.invariant-loop-op
invariant-loop-op l = (op : ℕ) → op < l.op → mnemonic_of op ≢ Some l.text
