use Rattle.std.proofs.Common.{◌∙◌, ap, sym, arith}
use Rattle.mvm_heap.specs.Objects.{Object}
use Rattle.mvm_heap.proofs.Stores.{count, header_within, object_is}
use Rattle.mvm_heap.proofs.rows.sort_in.Goals as goal

pub start_of-requires : goal.start_of-requires
start_of-requires c = omega (arith, c.requires.there, count c.args.region.now.words c.args.directory.now)

pub sort_at-requires : goal.sort_at-requires
sort_at-requires c = let h = header_within _ _ _ _ _ c.requires.packed c.start_of.ensures in omega (arith, h)

pub returns : goal.returns
returns c = c.sort_at.ensures ∙ sym (ap (λ (o : Object). o.sort) (object_is _ _ _ _ c.start_of.ensures))
