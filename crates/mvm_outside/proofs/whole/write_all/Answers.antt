use Rattle.std.proofs.Common.{arith}
use Rattle.mvm_outside.proofs.Pieces.{appended_next}
use Rattle.mvm_outside.proofs.whole.write_all.Goals as goal

pub loop-done-preserved : goal.loop-done-preserved
loop-done-preserved g c = record {
  bytes = appended_next _ _ _ c.args.bytes.now c.loop-done.done c.in-Ok.count c.loop-done.invariant.bytes (rw c.split_at.ensures.back at c.in-Ok.ensures.bytes);
  within = omega (arith, c.in-Ok.ensures.bound, c.split_at.ensures.back_len);
  untouched = λ none. absurd (c.in-Ok.count-test.1 (omega arith));
  faults = omega (arith, c.write.ensures.cause.later);
  idle = omega (arith, c.write.ensures.idle.later);
}
