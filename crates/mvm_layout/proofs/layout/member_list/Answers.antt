use Rattle.std.proofs.lemmas.Result.{err_from_is_err_and}
use Rattle.mvm_layout.specs.Format.{read_times}
use Rattle.mvm_layout.specs.Layout.{member}
use Rattle.mvm_layout.proofs.Loops.{goes_on, fails}
use Rattle.mvm_layout.proofs.layout.member_list.Goals as goal

pub returns-in_err-one : goal.returns-in_err-one
returns-in_err-one c =
    let p = err_from_is_err_and c.from_residual.result c.from_residual.ensures.1 in
    rw (p.1, p.2) (λ other. fails member c.loop-i.all c.args.count c.loop-i.i c.loop-i.cursor c.in_err-one.field-0.0 (read_times member c.args.count c.args.cursor.now) c.loop-i-test.true (c.in_err-one.ensures other) c.loop-i.invariant)

pub loop-i-preserved : goal.loop-i-preserved
loop-i-preserved c = rw c.in_ok-push.ensures.ok (goes_on member c.loop-i.all c.args.count c.loop-i.i c.loop-i.cursor c.in_ok-one.one c.member.new.cursor (read_times member c.args.count c.args.cursor.now) c.loop-i-test.true c.in_ok-one.ensures c.loop-i.invariant)
