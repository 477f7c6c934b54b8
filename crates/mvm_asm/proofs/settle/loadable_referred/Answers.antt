use Rattle.std.proofs.Common.{rules, ◌≡◌, to_z, of_z, w32, ◌∙◌}
use mir.Syntax.{w128}
use mir.Val.{SFits}
use Rattle.std.proofs.lemmas.Int.{to_z-of_z}
use Rattle.mvm_asm.proofs.settle.loadable_referred.Goals as goal

pub returns-in-Integer : goal.returns-in-Integer
returns-in-Integer c =
    let f : SFits w128 c.in-Integer.number = search rules in
    let g : SFits w32 c.int.result = search rules in
    let e : to_z w32 (of_z w32 c.int.result) ≡ c.in-Integer.number = to_z-of_z w32 c.int.result g ∙ (c.int.ensures ∙ to_z-of_z w128 c.in-Integer.number f) in
    rw (c.in-Integer.is, ← e) c.integer.ensures
