use Rattle.std.proofs.lemmas.List.Edits.{map_over_more}
use Rattle.mvm_interp.specs.Waking.{awake_row}
use Rattle.mvm_interp.proofs.rows.wake_all.Goals as goal

pub loop-place-preserved : goal.loop-place-preserved
loop-place-preserved c =
    let h = map_over_more (awake_row c.args.object) c.args.rows.now c.loop-place.rows c.loop-place.place c.index-rows-place.result c.loop-place-test.true c.loop-place.invariant c.index-rows-place.is in
    rw (c.awake_on-row.ensures, ← c.index-rows-place.is) h
