use Rattle.std.proofs.Common.{rules, ◌≡◌, to_z, of_z, w32, w64, ◌∙◌}
use mir.Syntax.{w128}
use mir.Val.{SFits}
use Rattle.std.proofs.lemmas.Int.{to_z-of_z}
use Rattle.mvm_asm.proofs.settle.initial_referred.Goals as goal

pub returns-then-is_long : goal.returns-then-is_long
returns-then-is_long c =
    let f : SFits w128 c.in-Number.number = search rules in
    let g : SFits w64 c.long.result = search rules in
    let e : to_z w64 (of_z w64 c.long.result) ≡ c.in-Number.number = to_z-of_z w64 c.long.result g ∙ (c.long.ensures ∙ to_z-of_z w128 c.in-Number.number f) in
    rw (c.in-Number.is, c.if-is_long.true, ← e) c.long-then-is_long.ensures

pub returns-else-is_long : goal.returns-else-is_long
returns-else-is_long c =
    let f : SFits w128 c.in-Number.number = search rules in
    let g : SFits w32 c.int.result = search rules in
    let e : to_z w32 (of_z w32 c.int.result) ≡ c.in-Number.number = to_z-of_z w32 c.int.result g ∙ (c.int.ensures ∙ to_z-of_z w128 c.in-Number.number f) in
    rw (c.in-Number.is, c.if-is_long.false, ← e) c.integer.ensures
