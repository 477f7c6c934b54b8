use Rattle.std.proofs.Common.{arith}
use Rattle.mvm_heap.proofs.Stores.{count, header_within, monitor_is}
use Rattle.mvm_heap.proofs.rows.monitor_in.Goals as goal

pub start_of-requires : goal.start_of-requires
start_of-requires c = omega (arith, c.requires.there, count c.args.region.now.words c.args.directory.now)

pub monitor_at-requires : goal.monitor_at-requires
monitor_at-requires c = header_within _ _ _ _ _ c.requires.packed c.start_of.ensures

pub returns : goal.returns
returns c = rw c.monitor_at.ensures (monitor_is _ _ _ _ c.start_of.ensures)
