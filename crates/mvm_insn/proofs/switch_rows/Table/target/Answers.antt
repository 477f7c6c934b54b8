use Rattle.std.proofs.Common.{◌≡◌, length, ◌∙◌, arith, ap, sym, Some, pos, ◌+ℤ◌, w32, to_z, of_z}
use Rattle.std.specs.Prelude.{ℤ}
use Rattle.std.proofs.lemmas.Int.{ints}
use Rattle.mvm_insn.specs.Rows.{table_row}
use Rattle.mvm_insn.proofs.RowLaws.{length_rows, target_found, target_missed, counted_apart}
use Rattle.mvm_insn.proofs.switch_rows.Table.target.Goals as goal

pub row-requires : goal.row-requires
row-requires c =
    let e = length_rows c.self.inside.count (table_row c.self.inside.at c.self.inside.low c.self.inside.text.now) in
    let n : length c.args.self.now ≡ c.self.inside.count = cc in
    omega (arith, c.in-Some.ensures.0)

pub returns-in-Some : goal.returns-in-Some
returns-in-Some c =
    let key : to_z w32 (of_z w32 c.args.key) ≡ c.args.key = omega (arith, ints) in
    let low : to_z w32 (of_z w32 c.self.inside.low) ≡ c.self.inside.low = omega (arith, ints) in
    let is : (c.self.inside.low +ℤ pos c.in-Some.place) ≡ c.args.key = ap (λ (l : ℤ). l +ℤ pos c.in-Some.place) (sym low) ∙ c.in-Some.ensures.1 ∙ key in
    let f = table_row c.self.inside.at c.self.inside.low c.self.inside.text.now in
    let same = target_found f c.args.key c.self.inside.count c.in-Some.place c.args.self.now c.row.result (sym c.self.view_is) c.in-Some.ensures.0 is
    (counted_apart c.self.inside.low c.args.key c.in-Some.place is) c.row.ensures in
    ap (λ (x : ℤ). Some x) (omega (arith, ints)) ∙ same

pub returns-in-None : goal.returns-in-None
returns-in-None c =
    let key : to_z w32 (of_z w32 c.args.key) ≡ c.args.key = omega (arith, ints) in
    let low : to_z w32 (of_z w32 c.self.inside.low) ≡ c.self.inside.low = omega (arith, ints) in
    target_missed (table_row c.self.inside.at c.self.inside.low c.self.inside.text.now) c.args.key c.self.inside.count c.args.self.now (sym c.self.view_is) (λ j p e. c.in-None.ensures j p (ap (λ (l : ℤ). l +ℤ pos j) low ∙ e ∙ sym key))
