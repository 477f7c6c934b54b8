use Rattle.std.proofs.Common.{◌≡◌, ◌+◌, ◌++◌, drop}
use Rattle.mvm_listing.specs.Disassembly.{entries}
use Rattle.mvm_disassembler.specs.Steps.{lines_text}
use Rattle.mvm_disassembler.proofs.write_class.push_entries.Given as goal

-- with the lines that are left all are written
abbrev pub invariant-loop-item : goal.invariant-loop-item
invariant-loop-item l = record {
  next : l.index ≡ l.item-index + 1;
  added : l.out ++ lines_text l.pool (entries l.index (drop l.item-index l.pool)) ≡ l.initial.out ++ lines_text l.pool (entries 1 l.pool);
}
