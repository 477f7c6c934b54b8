use Rattle.std.proofs.Common.{◌∙◌, ap, arith}
use Rattle.mvm_heap.specs.Objects.{Stored}
use Rattle.mvm_heap.proofs.Fill.{fill_begins, fill_goes, fill_ends, filled_count, made}
use Rattle.mvm_heap.proofs.text.write_units.Goals as goal

pub loop-place-preserved : goal.loop-place-preserved
loop-place-preserved c = record {
  filled =
      rw (ap (λ (s : Stored). s.objects) c.put.ensures)
      (fill_goes _ _ _ _ _ _ c.requires.there c.loop-place.invariant.filled
      (omega (arith, c.loop-place-test.true, c.length-len.ensures.length, filled_count _ _ _ _ _ c.requires.there (fill_begins c.args.store.now.objects c.args.number c.args.units.now c.requires.blank)))
      c.from.ensures (rw c.from.ensures (c.type_inv.units c.loop-place.place).fits));
  monitors = ap (λ (s : Stored). s.monitors) c.put.ensures ∙ c.loop-place.invariant.monitors;
  size = ap (λ (s : Stored). s.size) c.put.ensures ∙ c.loop-place.invariant.size;
}

pub returns : goal.returns
returns c =
    let e = fill_ends _ _ _ _ c.loop-place.place
    (omega (arith, c.loop-place-test.false, c.length-len.ensures.length, filled_count _ _ _ _ _ c.requires.there (fill_begins c.args.store.now.objects c.args.number c.args.units.now c.requires.blank)))
    c.loop-place.invariant.filled in
    made c.loop-place.store _ _ _ e c.loop-place.invariant.monitors c.loop-place.invariant.size
