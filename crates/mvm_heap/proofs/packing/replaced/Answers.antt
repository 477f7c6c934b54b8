use Rattle.std.proofs.Common.{◌*◌}
use Rattle.mvm_heap.proofs.Items.{pow_pos, replaced_parts, product_small, factor_small, whole_replaced}
use Rattle.mvm_heap.proofs.packing.replaced.Goals as goal

pub returns-then-bits-eq64 : goal.returns-then-bits-eq64
returns-then-bits-eq64 c = whole_replaced c.args.count _ _ _ _ c.if-bits-eq64.true c.requires.there c.requires.within c.ranges.word.fits

pub overflow_add-result : goal.overflow_add-result
overflow_add-result c =
    let t = replaced_parts c.args.count c.args.bits c.args.place c.args.value c.args.word c.requires.there c.requires.fits c.requires.within c.ranges.word.fits in
    rw c.power.ensures (record { fits = factor_small _ _ _ _ (pow_pos (c.args.place * c.args.bits)) t })

pub overflow_mul-result-2 : goal.overflow_mul-result-2
overflow_mul-result-2 c =
    let t = replaced_parts c.args.count c.args.bits c.args.place c.args.value c.args.word c.requires.there c.requires.fits c.requires.within c.ranges.word.fits in
    rw (c.power.ensures, c.power-place_value.ensures) (record { fits = product_small _ _ _ _ t })

pub overflow_add-result-2 : goal.overflow_add-result-2
overflow_add-result-2 c =
    let t = replaced_parts c.args.count c.args.bits c.args.place c.args.value c.args.word c.requires.there c.requires.fits c.requires.within c.ranges.word.fits in
    rw (c.power.ensures, c.power-place_value.ensures) (record { fits = t })
