use Rattle.std.proofs.Common.{◌∙◌, ap, length}
use Rattle.mvm_region.specs.Words.{Words}
use Rattle.mvm_heap.proofs.Blocks.{with_number_length}
use Rattle.mvm_heap.proofs.Stores.{is_there, header_within, index_within, put_objects, put_monitors, put_stored}
use Rattle.mvm_heap.proofs.rows.put_in.Goals as goal

pub start_of-at-requires : goal.start_of-at-requires
start_of-at-requires c = is_there _ _ _ _ c.requires.there

pub sort_at-sort-requires : goal.sort_at-sort-requires
sort_at-sort-requires c = header_within _ _ _ _ _ c.requires.packed c.start_of-at.ensures

pub put_number-requires : goal.put_number-requires
put_number-requires c = rw c.sort_at-sort.ensures (index_within _ _ _ _ _ _ c.requires.packed c.start_of-at.ensures c.requires.there)

pub returns-clause-objects : goal.returns-clause-objects
returns-clause-objects c = rw (c.put_number.ensures, c.sort_at-sort.ensures) (put_objects _ _ _ _ _ _ _ c.requires.packed c.start_of-at.ensures c.requires.there c.ranges.value.fits)

pub returns-clause-monitors : goal.returns-clause-monitors
returns-clause-monitors c = rw (c.put_number.ensures, c.sort_at-sort.ensures) (put_monitors _ _ _ _ _ _ _ c.requires.packed c.start_of-at.ensures c.requires.there)

pub returns-clause-packed : goal.returns-clause-packed
returns-clause-packed c = rw (c.put_number.ensures, c.sort_at-sort.ensures) (put_stored _ _ _ _ _ _ _ c.requires.packed c.start_of-at.ensures c.requires.there)

pub returns-clause-length : goal.returns-clause-length
returns-clause-length c = ap (λ (w : Words). length w.words) c.put_number.ensures ∙ with_number_length _ _ _ _ _
