use Rattle.std.proofs.Common.{◌≡◌, Some, length, ap, arith}
use Rattle.std.specs.Prelude.{slice_get}
use Rattle.std.proofs.lemmas.Grind.{common_steps}
use Rattle.std.proofs.lemmas.Option.{gets}
use Rattle.mvm_shape.specs.TextNumbers.{look}
use Rattle.mvm_shape.proofs.TextNumbers.{next_number, numbered}
use Rattle.mvm_shape.proofs.text_numbers.numbers.Goals as goal

pub loop-i-preserved : goal.loop-i-preserved
loop-i-preserved c =
    let e : slice_get c.args.pool.now c.loop-i.i ≡ Some c.index-items-i.result = grind (arith, common_steps, gets) in
    record {
      long = grind (arith, common_steps);
      so_far = rw c.in_ok-push.ensures.items (next_number c.args.pool.now c.loop-i.numbers.items c.loop-i.i c.in_ok-number.number (look c.loop-i.seen) (look c.number_of_item.new.seen)
          c.loop-i.invariant.long c.loop-i.invariant.so_far (rw e c.in_ok-number.ensures));
    }

pub returns : goal.returns
returns c = numbered c.args.pool.now c.loop-i.numbers.items (look c.loop-i.seen) c.loop-i.invariant.so_far (omega (arith, ap length c.as_slice-items.ensures))
