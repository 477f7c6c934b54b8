use Rattle.std.proofs.Common.{◌∙◌, ap, sym, arith, length}
use Rattle.mvm_heap.specs.Objects.{Object}
use Rattle.mvm_heap.proofs.Blocks.{contents_length}
use Rattle.mvm_heap.proofs.Stores.{count, header_within, object_is, few_places}
use Rattle.mvm_heap.proofs.rows.length_in.Goals as goal

pub start_of-requires : goal.start_of-requires
start_of-requires c = omega (arith, c.requires.there, count c.args.region.now.words c.args.directory.now)

pub length_at-requires : goal.length_at-requires
length_at-requires c = let h = header_within _ _ _ _ _ c.requires.packed c.start_of.ensures in omega (arith, h)

pub returns-clause-length : goal.returns-clause-length
returns-clause-length c = c.length_at.ensures ∙ sym (ap (λ (o : Object). length o.contents) (object_is _ _ _ _ c.start_of.ensures) ∙ contents_length _ _)

pub returns-clause-few : goal.returns-clause-few
returns-clause-few c = rw c.length_at.ensures (few_places _ _ _ _ _ c.requires.packed c.start_of.ensures)
