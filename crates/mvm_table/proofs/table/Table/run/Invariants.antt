use Rattle.std.proofs.Common.{◌≡◌, ◌+◌, ℕ, List}
use Rattle.mvm_table.specs.Files.{files_in}
use Rattle.mvm_table.specs.Begun.{IsLoading, to_do}
use Rattle.mvm_table.specs.Cost.{to_read, HasSupers, AreAmong, left}
use Rattle.mvm_table.proofs.table.Table.run.Given as goal

abbrev pub invariant-loop-top : goal.invariant-loop-top
invariant-loop-top g l = record {
  loading : IsLoading l.set (files_in l.set l.self.files) l.root l.begun.items l.met;
  reads : (names : List (List ℕ)) → HasSupers (files_in l.set l.self.files) names → AreAmong l.initial.met names
      → AreAmong l.met names × (l.steps + left (to_read l.self l.set) l.met names ≡ l.initial.steps + left (to_read l.self l.set) l.initial.met names);
}

abbrev pub decreases-loop-top : goal.decreases-loop-top
decreases-loop-top g l = to_do (files_in l.set l.self.files) l.begun.items l.met
