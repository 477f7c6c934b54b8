use Rattle.std.proofs.Common.{◌-◌, false}
use Rattle.std.proofs.lemmas.Result.{err_from_is_err_and}
use Rattle.mvm_layout.specs.Entries.{items}
use Rattle.mvm_layout.proofs.Loops.{entries_go_on, entries_fail}
use Rattle.mvm_layout.proofs.entries.items.Goals as goal

pub returns-in_err-one : goal.returns-in_err-one
returns-in_err-one c =
    let p = err_from_is_err_and c.from_residual.result c.from_residual.ensures.1 in
    rw (p.1, p.2) (λ other. entries_fail c.loop-index.is_upper c.loop-index.all c.args.count c.loop-index.index c.loop-index.cursor c.in_err-one.field-0.0 ((items false 1 (c.args.count - 1)).read c.args.cursor.now) c.loop-index-test.true (c.in_err-one.ensures other) c.loop-index.invariant)

pub loop-index-preserved : goal.loop-index-preserved
loop-index-preserved c = rw (c.in_ok-push.ensures.ok, c.takes_two-is_upper.ensures) (entries_go_on c.loop-index.is_upper c.loop-index.all c.args.count c.loop-index.index c.loop-index.cursor c.in_ok-one.one c.entry.new.cursor ((items false 1 (c.args.count - 1)).read c.args.cursor.now) c.loop-index-test.true c.in_ok-one.ensures c.loop-index.invariant)
