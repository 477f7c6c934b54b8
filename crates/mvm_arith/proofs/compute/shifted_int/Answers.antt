use Rattle.std.proofs.Common.{◌∙◌, ◌^◌, ◌*ℤ◌, pos, ap}
use Rattle.std.specs.Int.{w32, int_wrap}
use Rattle.std.proofs.lemmas.Int.{to_z-of_z}
use Rattle.mvm_arith.specs.Numbers.{shifted, low_bits}
use Rattle.mvm_arith.proofs.Reduced.{left_is}
use Rattle.mvm_arith.proofs.compute.shifted_int.Goals as goal

pub returns-in-Left : goal.returns-in-Left
unfolding shifted
returns-in-Left c =
    let places = c.int_places-places in
    let count = places.ensures.value ∙ ap (low_bits 5) (to_z-of_z w32 c.args.distance c.ranges.distance) in
    rw c.in-Left.is (left_is w32 c.args.value places.result c.ranges.value places.ensures.few ∙ ap (λ n. int_wrap w32 (c.args.value *ℤ pos (2 ^ n))) count)
