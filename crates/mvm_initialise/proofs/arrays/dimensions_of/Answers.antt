use Rattle.std.proofs.Common.{get_or, arith}
use Rattle.std.proofs.lemmas.List.{take_more}
use Rattle.mvm_initialise.proofs.Dimensions.{finding_more}
use Rattle.mvm_initialise.proofs.arrays.dimensions_of.Goals as goal

pub loop-i-preserved : goal.loop-i-preserved
loop-i-preserved c =
    finding_more c.args.isolate.now c.loop-i.isolate c.array_class.new.self c.args.shape.now c.loop-i.item c.saturating_sub.result c.args.counts.now c.loop-i.i c.loop-i.dimensions c.push.new.self
    (record { row = c.in_ok-row.row; count = get_or c.args.counts.now c.loop-i.i 0 }) c.loop-i.invariant c.in_ok-push.ensures.ok (take_more c.args.counts.now c.loop-i.i 0 (omega arith)) c.in_ok-row.ensures.there c.in_ok-row.ensures.shape
    (omega arith) c.in_ok-row.ensures.same c.in_ok-row.ensures.links c.in_ok-row.ensures.grows
