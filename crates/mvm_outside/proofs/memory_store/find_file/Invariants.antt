use Rattle.std.proofs.Common.{◌≡◌, drop}
use Rattle.mvm_outside.specs.Files.{file_of}
use Rattle.mvm_outside.proofs.memory_store.find_file.Given as goal

abbrev pub invariant-loop-row : goal.invariant-loop-row
invariant-loop-row l = file_of (drop l.row-index l.rows) l.name ≡ file_of l.rows l.name
