use Rattle.std.proofs.Common.{◌≡◌, ◌*◌, length, ◌∙◌, arith, ap, sym, Some, w32, to_z, of_z}
use Rattle.std.specs.Prelude.{ℤ}
use Rattle.std.proofs.lemmas.Int.{ints}
use Rattle.mvm_insn.specs.Rows.{lookup_row, word}
use Rattle.mvm_insn.proofs.RowLaws.{length_rows, target_found, target_missed, rising_apart}
use Rattle.mvm_insn.proofs.switch_rows.Lookup.target.Goals as goal

pub row-requires : goal.row-requires
row-requires c =
    let e = length_rows c.self.inside.count (lookup_row c.self.inside.at c.self.inside.text.now) in
    let n : length c.args.self.now ≡ c.self.inside.count = cc in
    omega (arith, c.in-Some.ensures.0)

pub returns-in-Some : goal.returns-in-Some
returns-in-Some c =
    let key : to_z w32 (of_z w32 c.args.key) ≡ c.args.key = omega (arith, ints) in
    let f = lookup_row c.self.inside.at c.self.inside.text.now in
    let same = target_found f c.args.key c.self.inside.count c.in-Some.place c.args.self.now c.row.result (sym c.self.view_is) c.in-Some.ensures.0 (c.in-Some.ensures.1 ∙ key)
    (rising_apart (λ i. word c.self.inside.text.now (2 * i)) c.self.inside.count c.in-Some.place c.args.key c.self.invariant.1 c.in-Some.ensures.0 (c.in-Some.ensures.1 ∙ key)) c.row.ensures in
    ap (λ (x : ℤ). Some x) (omega (arith, ints)) ∙ same

pub returns-in-None : goal.returns-in-None
returns-in-None c =
    let key : to_z w32 (of_z w32 c.args.key) ≡ c.args.key = omega (arith, ints) in
    target_missed (lookup_row c.self.inside.at c.self.inside.text.now) c.args.key c.self.inside.count c.args.self.now (sym c.self.view_is) (λ j p e. c.in-None.ensures j p (e ∙ sym key))
