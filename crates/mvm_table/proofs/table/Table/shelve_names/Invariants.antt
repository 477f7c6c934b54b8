use Rattle.std.proofs.Common.{◌≡◌, ◌<◌, ℕ, List, true, slice_index_or}
use Rattle.mvm_table.specs.Contents.{Stay, is_shelved}
use Rattle.mvm_table.proofs.table.Table.shelve_names.Given as goal

abbrev pub invariant-loop-i : goal.invariant-loop-i
invariant-loop-i g l = record {
  files : l.self.files ≡ l.initial.self.files;
  stay : Stay l.initial.self l.self;
  shelved : (k : ℕ) (d : List ℕ) → k < l.i → is_shelved l.self l.set (slice_index_or l.names k d) ≡ true;
}
