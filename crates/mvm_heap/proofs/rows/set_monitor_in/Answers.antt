use Rattle.std.proofs.Common.{arith}
use Rattle.mvm_heap.proofs.Stores.{count, header_within, header_objects, header_monitors, header_stored}
use Rattle.mvm_heap.proofs.rows.set_monitor_in.Goals as goal

pub start_of-requires : goal.start_of-requires
start_of-requires c = omega (arith, c.requires.there, count c.args.region.now.words c.args.directory.now)

pub put_monitor-requires-clause-there : goal.put_monitor-requires-clause-there
put_monitor-requires-clause-there c = header_within _ _ _ _ _ c.requires.packed c.start_of.ensures

pub returns-clause-objects : goal.returns-clause-objects
returns-clause-objects c =
    header_objects _ _ _ _ _ _ c.requires.packed c.start_of.ensures (record { others = c.put_monitor.ensures.others; sort = c.put_monitor.ensures.sort; length = c.put_monitor.ensures.length })

pub returns-clause-monitors : goal.returns-clause-monitors
returns-clause-monitors c =
    header_monitors _ _ _ _ _ _ _ c.requires.packed c.start_of.ensures (record { others = c.put_monitor.ensures.others; sort = c.put_monitor.ensures.sort; length = c.put_monitor.ensures.length }) c.put_monitor.ensures.monitor

pub returns-clause-packed : goal.returns-clause-packed
returns-clause-packed c =
    rw c.put_monitor.ensures.carved
    (header_stored _ _ _ _ _ _ c.requires.packed c.start_of.ensures (record { others = c.put_monitor.ensures.others; sort = c.put_monitor.ensures.sort; length = c.put_monitor.ensures.length }))
