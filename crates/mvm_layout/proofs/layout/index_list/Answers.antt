use Rattle.mvm_layout.specs.Format.{read_times, number}
use Rattle.mvm_layout.proofs.Loops.{goes_on}
use Rattle.mvm_layout.proofs.layout.index_list.Goals as goal

pub loop-i-preserved : goal.loop-i-preserved
loop-i-preserved c = rw c.in_ok-push.ensures.ok (goes_on (number 2) c.loop-i.all c.args.count c.loop-i.i c.loop-i.cursor c.in_ok-one.one c.u2.new.cursor (read_times (number 2) c.args.count c.args.cursor.now) c.loop-i-test.true c.in_ok-one.ensures.gives c.loop-i.invariant)
