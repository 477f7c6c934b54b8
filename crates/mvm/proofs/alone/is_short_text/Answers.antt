use Rattle.std.proofs.Common.{sym, ◌≤◌, arith}
use Rattle.mvm.proofs.Locking.{no_characters, short_text}
use Rattle.mvm.proofs.alone.is_short_text.Goals as goal

pub returns : goal.returns
returns c =
    let none = no_characters c.loop-rest.rest.now (grind arith) in
    let h = rw none at c.loop-rest.invariant in
    let count = h.0 in
    let few : c.loop-rest.count ≤ 255 = omega (arith, c.loop-rest.auto, c.loop-rest.invariant) in
    sym (short_text c.args.units.now (sym h.1) (omega (arith, count, few)))
