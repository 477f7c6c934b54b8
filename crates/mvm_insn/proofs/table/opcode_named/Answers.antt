use Rattle.std.proofs.Common.{◌≡◌, ◌<◌, ◌≤◌, inl, inr, Some, None, sym, ◌∙◌, arith}
use Rattle.std.proofs.lemmas.Bool.{cases_lt}
use Rattle.mvm_insn.specs.Opcodes.{mnemonic_of}
use Rattle.mvm_insn.proofs.Tables.{unnamed}
use Rattle.mvm_insn.proofs.table.opcode_named.Goals as goal

pub returns : goal.returns
returns c = λ op e. elim (cases_lt op 202) [
  | inl h ↦ c.loop-op.invariant op (omega (arith)) e
  | inr h ↦ (let none = unnamed op h in absurd cc)
]
