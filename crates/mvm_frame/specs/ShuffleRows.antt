-- The instructions that move operands, by their opcodes (JVM Specification 6.5).
use Rattle.std.specs.Prelude.{ℕ, ◌==◌, if◌then◌else◌, Option, Some, None}
use Rattle.mvm_insn.specs.declared.opcodes.TheConstants as jvm
use Rattle.mvm_frame.specs.declared.shuffle_rows.Shuffle.{Shuffle}
use Rattle.mvm_frame.specs.declared.shuffle_rows.Shuffle.TheVariants.{Pop, Pop2, Dup, DupX1, DupX2, Dup2, Dup2X1, Dup2X2, Swap}

abbrev pub shuffle_of : ℕ → Option Shuffle
shuffle_of op =
    if op == jvm.POP then Some Pop else (
    if op == jvm.POP2 then Some Pop2 else (
    if op == jvm.DUP then Some Dup else (
    if op == jvm.DUP_X1 then Some DupX1 else (
    if op == jvm.DUP_X2 then Some DupX2 else (
    if op == jvm.DUP2 then Some Dup2 else (
    if op == jvm.DUP2_X1 then Some Dup2X1 else (
    if op == jvm.DUP2_X2 then Some Dup2X2 else (
    if op == jvm.SWAP then Some Swap else None))))))))
