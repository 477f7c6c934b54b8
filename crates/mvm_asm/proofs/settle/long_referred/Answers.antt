use Rattle.std.proofs.Common.{rules, ◌≡◌, to_z, of_z, w64, ◌∙◌}
use mir.Syntax.{w128}
use mir.Val.{SFits}
use Rattle.std.proofs.lemmas.Int.{to_z-of_z}
use Rattle.mvm_asm.proofs.settle.long_referred.Goals as goal

pub returns-in-Long : goal.returns-in-Long
returns-in-Long c =
    let f : SFits w128 c.in-Long.number = search rules in
    let g : SFits w64 c.long.result = search rules in
    let e : to_z w64 (of_z w64 c.long.result) ≡ c.in-Long.number = to_z-of_z w64 c.long.result g ∙ (c.long.ensures ∙ to_z-of_z w128 c.in-Long.number f) in
    rw (c.in-Long.is, ← e) c.long-in-Long.ensures
