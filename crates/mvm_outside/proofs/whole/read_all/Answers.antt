use Rattle.std.proofs.Common.{arith, take}
use Rattle.mvm_outside.proofs.Pieces.{lost_next}
use Rattle.mvm_outside.proofs.whole.read_all.Goals as goal

pub returns-then-count-room-clause-taken : goal.returns-then-count-room-clause-taken
returns-then-count-room-clause-taken g c =
    lost_next _ _ _ c.loop-count.all.items (take c.in-Ok.count c.read.new.buf) _ c.loop-count.invariant.bytes c.in-Ok.ensures.bytes.0
    (omega (arith, c.in-Ok.ensures.bound, c.saturating_add.ensures, c.min.ensures, c.split_at_mut-piece.ensures.front_len))

pub returns-then-is_err-clause-taken : goal.returns-then-is_err-clause-taken
returns-then-is_err-clause-taken g c =
    lost_next _ _ _ c.loop-count.all.items (take c.in-Ok.count c.read.new.buf) _ c.loop-count.invariant.bytes c.in-Ok.ensures.bytes.0
    (omega (arith, c.in-Ok.ensures.bound, c.split_at_mut-piece.ensures.front_len))
