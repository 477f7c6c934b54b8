use Rattle.std.proofs.Common.{◌≡◌, ◌-◌, ◌+◌, ◌≤◌, ◌<◌, refl, ◌∙◌, arith}
use Rattle.std.proofs.Math.ListN.{length-set}
use Rattle.mvm_frame.specs.declared.slot.Slot.TheVariants.{Unset}
use Rattle.mvm_frame.proofs.Placing.{lay_unset, lay_arg, above_set, none_yet, lay_begun, lay_ended}
use Rattle.mvm_frame.proofs.lay.lay.Goals as goal

pub unset-init : goal.unset-init
unset-init c = record { low = c.requires.locals; high = omega arith; same = refl; len = refl; laid = none_yet c.args.base c.args.slots.now.items }

pub unset-preserved : goal.unset-preserved
unset-preserved c =
    let i = c.unset.invariant in
    let r = c.requires in
    record {
      low = omega (arith, c.unset-test.true);
      high = omega (arith, i.high);
      same = above_set c.args.base (c.unset.at - 1) c.unset.slots.items c.args.slots.now.items Unset (omega (arith, c.unset-test.true, i.high)) i.same;
      len = length-set c.unset.slots.items (c.unset.at - 1) Unset ∙ i.len;
      laid = lay_unset c.unset.at c.args.base c.unset.slots.items Unset (omega (arith, c.unset-test.true)) i.high (omega (arith, i.len, r.apart, r.within)) i.laid;
    }

pub loop-k-init : goal.loop-k-init
loop-k-init c =
    let i = c.unset.invariant in
    let e : c.unset.at ≡ c.args.bottom + c.args.args = omega (arith, i.low, c.unset-test.false) in
    record { place = omega (arith, e); same = i.same; len = i.len; laid = lay_begun c.unset.at c.args.base c.args.bottom c.args.args c.unset.slots.items Unset e i.laid }

pub loop-k-preserved : goal.loop-k-preserved
loop-k-preserved c =
    let i = c.loop-k.invariant in
    let r = c.requires in
    let ws = c.loop-k.slots.items in
    let w = c.index.result.now in
    let pos : 0 < c.loop-k.at = omega (arith, i.place, c.loop-k-test.true) in
    let low : c.loop-k.at ≤ c.args.base = omega (arith, i.place, r.locals) in
    record {
      place = omega (arith, i.place, pos);
      same = above_set c.args.base (c.loop-k.at - 1) ws c.args.slots.now.items w (omega (arith, pos, low)) i.same;
      len = length-set ws (c.loop-k.at - 1) w ∙ i.len;
      laid = lay_arg c.loop-k.at c.args.base c.loop-k.k c.args.sp ws c.args.slots.now.items _ w pos low r.apart (omega (arith, r.within, c.loop-k-test.true)) i.len i.same c.index.ensures i.laid;
    }

pub returns : goal.returns
returns c =
    let i = c.loop-k.invariant in
    record {
      locals = lay_ended c.loop-k.at c.args.base c.args.bottom c.loop-k.k c.args.args c.loop-k.slots.items _ _ i.place (omega (arith, c.loop-k.auto.k-end, c.loop-k-test.false)) i.laid;
      above = i.same;
      len = i.len;
    }
