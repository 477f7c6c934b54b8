use Rattle.std.proofs.Common.{◌≡◌, length}
use Rattle.mvm_table.specs.Contents.{AreEmpty}
use Rattle.mvm_table.proofs.table.empty_shelves.Given as goal

abbrev pub invariant-loop : goal.invariant-loop
invariant-loop l = record { empty : AreEmpty l.shelves.items; count : length l.shelves.items ≡ l.counter }
