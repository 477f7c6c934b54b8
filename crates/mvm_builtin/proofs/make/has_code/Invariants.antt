use Rattle.std.proofs.Common.{◌≡◌, drop}
use Rattle.std.specs.List.{list_any}
use Rattle.mvm_builtin.specs.Table.{lines_of, is_part}
use Rattle.mvm_builtin.specs.declared.parts.Part.TheVariants.{Bytecode}
use Rattle.mvm_builtin.proofs.make.has_code.Given as goal

abbrev pub invariant-loop-i : goal.invariant-loop-i
invariant-loop-i l = list_any (λ line. is_part Bytecode line.sort) (lines_of (drop l.i l.lines)) ≡ list_any (λ line. is_part Bytecode line.sort) (lines_of l.lines)
