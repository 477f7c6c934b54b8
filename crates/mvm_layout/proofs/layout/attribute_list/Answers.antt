use Rattle.mvm_layout.specs.Format.{read_times}
use Rattle.mvm_layout.specs.Layout.{attribute}
use Rattle.mvm_layout.proofs.Loops.{goes_on}
use Rattle.mvm_layout.proofs.layout.attribute_list.Goals as goal

pub loop-i-preserved : goal.loop-i-preserved
loop-i-preserved c = rw c.in_ok-push.ensures.ok (goes_on attribute c.loop-i.all c.args.count c.loop-i.i c.loop-i.cursor c.in_ok-one.one c.attribute.new.cursor (read_times attribute c.args.count c.args.cursor.now) c.loop-i-test.true c.in_ok-one.ensures c.loop-i.invariant)
