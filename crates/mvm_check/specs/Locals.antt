-- How many local variables there have to be (JVM Specification 4.9.1).
use Rattle.std.specs.Prelude.{ℕ, ◌+◌, ◌-◌, ◌||◌, ◌==◌, if◌then◌else◌, Option, Some, None}
use Rattle.mvm_insn.specs.Opcodes.{between}
use Rattle.mvm_insn.specs.declared.opcodes.TheConstants as jvm
use Rattle.mvm_insn.specs.declared.insn.Insn.{Insn}
use Rattle.mvm_insn.specs.declared.insn.Insn.TheVariants.{Plain, Local, Inc}
use Rattle.mvm_layout.specs.Flags.{is_static}

-- by iload_0 to iload_3, lload_0 to lload_3, and so on, where a long takes the next one too; by any other, none
unfoldable pub locals_of_plain : ℕ → ℕ
locals_of_plain op =
    if between jvm.ILOAD_0 jvm.ILOAD_3 op then op - jvm.ILOAD_0 + 1 else (
    if between jvm.LLOAD_0 jvm.LLOAD_3 op then op - jvm.LLOAD_0 + 2 else (
    if between jvm.ALOAD_0 jvm.ALOAD_3 op then op - jvm.ALOAD_0 + 1 else (
    if between jvm.ISTORE_0 jvm.ISTORE_3 op then op - jvm.ISTORE_0 + 1 else (
    if between jvm.LSTORE_0 jvm.LSTORE_3 op then op - jvm.LSTORE_0 + 2 else (
    if between jvm.ASTORE_0 jvm.ASTORE_3 op then op - jvm.ASTORE_0 + 1 else 0)))))

-- lload and lstore, and the others that name the local variable
abbrev pub locals_of_named : ℕ → ℕ → ℕ
locals_of_named op local = if op == jvm.LLOAD || op == jvm.LSTORE then local + 2 else local + 1

unfoldable pub locals_of : Insn → ℕ
locals_of (Plain op) = locals_of_plain op
locals_of (Local op local wide) = locals_of_named op local
locals_of (Inc local by wide) = local + 1
locals_of _ = 0

abbrev pub slots_of_this : ℕ → ℕ
slots_of_this flags = if is_static flags then 0 else 1

-- The local variables that take the parameters, of so many slots, `this` counted unless the method is static (4.3.3, 4.7.3). What
-- is no descriptor has none.
abbrev pub parameter_locals : ℕ → Option ℕ → ℕ
parameter_locals flags (Some slots) = slots + slots_of_this flags
parameter_locals flags None = 0
