use Rattle.std.proofs.Common.{◌≡◌, List, length, ◌∙◌, ap, sym, Some, slice_get, ℤ, w32, to_z, of_z, arith}
use Rattle.std.proofs.lemmas.Int.{ints}
use Rattle.mvm_insn.specs.Rows.{table_row}
use Rattle.mvm_insn.specs.declared.switch_rows.SwitchRow.{SwitchRow}
use Rattle.mvm_insn.proofs.RowLaws.{length_rows, get_rows}
use Rattle.mvm_insn.proofs.switch_rows.Table.row.Goals as goal

pub table_row-requires-clause-whole : goal.table_row-requires-clause-whole
table_row-requires-clause-whole c =
    let e = length_rows c.self.inside.count (table_row c.self.inside.at c.self.inside.low c.self.inside.text.now) in
    let n : length c.args.self.now ≡ c.self.inside.count = cc in
    omega (arith, c.self.invariant.0)

pub table_row-requires-clause-high : goal.table_row-requires-clause-high
table_row-requires-clause-high c =
    let e = length_rows c.self.inside.count (table_row c.self.inside.at c.self.inside.low c.self.inside.text.now) in
    let n : length c.args.self.now ≡ c.self.inside.count = cc in
    omega (arith, ints, c.self.invariant.1)

pub returns : goal.returns
returns c =
    let e = length_rows c.self.inside.count (table_row c.self.inside.at c.self.inside.low c.self.inside.text.now) in
    let n : length c.args.self.now ≡ c.self.inside.count = cc in
    let low : to_z w32 (of_z w32 c.self.inside.low) ≡ c.self.inside.low = omega (arith, ints) in
    let g = get_rows c.self.inside.count c.args.at (table_row c.self.inside.at c.self.inside.low c.self.inside.text.now) (omega arith) in
    sym (ap (λ (xs : List SwitchRow). slice_get xs c.args.at) c.self.view_is) ∙ g ∙ ap (λ (r : SwitchRow). Some r) (sym (c.table_row.ensures ∙ ap (λ (l : ℤ). table_row c.self.inside.at l c.self.inside.text.now c.args.at) low))
