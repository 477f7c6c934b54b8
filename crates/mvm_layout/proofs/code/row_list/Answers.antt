use Rattle.mvm_layout.specs.Format.{read_times}
use Rattle.mvm_layout.specs.Layout.{row}
use Rattle.mvm_layout.proofs.Loops.{goes_on}
use Rattle.mvm_layout.proofs.code.row_list.Goals as goal

pub loop-i-preserved : goal.loop-i-preserved
loop-i-preserved c = rw c.in_ok-push.ensures.ok (goes_on row c.loop-i.all c.args.count c.loop-i.i c.loop-i.cursor c.in_ok-one.one c.row.new.cursor (read_times row c.args.count c.args.cursor.now) c.loop-i-test.true c.in_ok-one.ensures c.loop-i.invariant)
