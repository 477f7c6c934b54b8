use Rattle.std.proofs.Common.{◌≡◌, drop}
use Rattle.mvm_table.specs.Link.{linked_files}
use Rattle.mvm_table.proofs.link.check_files.Given as goal

abbrev pub invariant-loop-i : goal.invariant-loop-i
invariant-loop-i l = linked_files (drop l.i l.owns) ≡ linked_files l.owns
