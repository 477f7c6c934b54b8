use Rattle.std.proofs.Common.{◌≡◌, drop}
use Rattle.mvm_builtin.specs.Table.{lines_of}
use Rattle.mvm_builtin.specs.Natives.{native_in}
use Rattle.mvm_builtin.proofs.native_methods.native_in.Given as goal

abbrev pub invariant-loop-i : goal.invariant-loop-i
invariant-loop-i l = native_in l.name l.desc (lines_of (drop l.i l.lines)) ≡ native_in l.name l.desc (lines_of l.lines)
