-- Whether the instructions from the place on enter or exit a monitor, of all the same.
use Rattle.std.proofs.Common.{◌≡◌, ◌-◌, length}
use Rattle.std.specs.List.{list_any}
use Rattle.mvm_check.specs.Starts.{starts_from}
use Rattle.mvm_insn.specs.Insns.{insn}
use Rattle.mvm.specs.Alone.{is_monitor_at}
use Rattle.mvm.proofs.alone.has_monitors.Given as goal

abbrev pub invariant-loop-i : goal.invariant-loop-i
invariant-loop-i l =
    list_any (λ pc. is_monitor_at (insn l.code pc)) (starts_from (length l.code - l.i) l.code l.pc) ≡ list_any (λ pc. is_monitor_at (insn l.code pc)) (starts_from (length l.code) l.code 0)
