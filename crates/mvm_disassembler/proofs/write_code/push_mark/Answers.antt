use Rattle.std.proofs.Common.{◌≡◌, ◌∙◌, sym, ap, false, arith, to_z, of_z, ℤ}
use Rattle.std.specs.Prelude.{pos}
use Rattle.std.proofs.lemmas.Int.{ints}
use mir.Syntax.{w128}
use Rattle.mvm_disassembler.specs.Steps.{holds}
use Rattle.mvm_disassembler.proofs.Written.{mark_none}
use Rattle.mvm_disassembler.proofs.write_code.push_mark.Goals as goal

pub returns-else-contains : goal.returns-else-contains
returns-else-contains c =
    let targets = c.args.targets.now in
    let place : c.from-at.result ≡ pos c.args.at = c.from-at.ensures in
    let read : to_z w128 (of_z w128 (pos c.args.at)) ≡ pos c.args.at = omega (arith, ints) in
    let none : holds targets (pos c.args.at) ≡ false =
    sym (ap (λ (z : ℤ). holds targets z) read) ∙ sym (ap (λ (z : ℤ). holds targets (to_z w128 (of_z w128 z))) place) ∙ sym c.contains.ensures ∙ c.if-contains.false in
    sym (mark_none c.args.pool.now targets c.args.at c.args.out.now none)
