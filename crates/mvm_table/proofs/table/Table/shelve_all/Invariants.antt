use Rattle.std.proofs.Common.{◌≡◌, ◌<◌, ℕ, true, slice_index_or}
use Rattle.mvm_set.specs.declared.class.Lineage.{Lineage}
use Rattle.mvm_table.specs.Contents.{Stay, stands, all_off}
use Rattle.mvm_table.proofs.table.Table.shelve_all.Given as goal

abbrev pub invariant-loop-i : goal.invariant-loop-i
invariant-loop-i l = record {
  files : l.self.files ≡ l.initial.self.files;
  stay : Stay l.initial.self l.self;
  shelved : (k : ℕ) (d : Lineage) → k < l.i → stands l.self (slice_index_or l.fresh k d) ≡ true;
  back : all_off l.put.items l.self.shelves ≡ all_off l.initial.put.items l.initial.self.shelves;
}
