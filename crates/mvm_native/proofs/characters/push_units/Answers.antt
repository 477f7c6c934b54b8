use Rattle.std.proofs.Common.{rules, append_assoc, append-nil, arith}
use Rattle.mvm_native.proofs.Shown.{shown_first, shown_none}
use Rattle.mvm_native.proofs.characters.push_units.Goals as goal

pub loop-rest-preserved : goal.loop-rest-preserved
loop-rest-preserved c =
    let first = shown_first _ _ _ c.first_character-character.ensures.first in
    rw (c.in_ok-push_character.ensures, append_assoc, c.split_at.ensures.back, ← first) c.loop-rest.invariant

pub returns : goal.returns
returns c =
    let none = shown_none c.loop-rest.rest.now (grind arith) in
    let all = rw (none, append-nil) at c.loop-rest.invariant in
    search rules
