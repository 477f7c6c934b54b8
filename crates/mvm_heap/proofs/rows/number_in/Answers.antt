use Rattle.std.proofs.Common.{◌∙◌, sym}
use Rattle.mvm_heap.proofs.Stores.{is_there, header_within, index_within, number_is, object_is, number_fits}
use Rattle.mvm_heap.proofs.rows.number_in.Goals as goal

pub start_of-at-requires : goal.start_of-at-requires
start_of-at-requires c = is_there _ _ _ _ c.requires.there

pub sort_at-requires : goal.sort_at-requires
sort_at-requires c = header_within _ _ _ _ _ c.requires.packed c.start_of-at.ensures

pub number_at-requires : goal.number_at-requires
number_at-requires c = rw c.sort_at.ensures (index_within _ _ _ _ _ _ c.requires.packed c.start_of-at.ensures c.requires.there)

pub returns-clause-number : goal.returns-clause-number
returns-clause-number c = c.number_at.ensures ∙ rw c.sort_at.ensures (sym (number_is _ _ _ _ _ c.start_of-at.ensures c.requires.there))

pub returns-clause-fits : goal.returns-clause-fits
returns-clause-fits c = rw (object_is _ _ _ _ c.start_of-at.ensures, c.number_at.ensures, c.sort_at.ensures) (number_fits _ _ _ _)
