use Rattle.std.proofs.Common.{◌≡◌, length, arith}
use Rattle.mvm_insn.specs.Rows.{lookup_row}
use Rattle.mvm_insn.proofs.RowLaws.{length_rows, get_rows}
use Rattle.mvm_insn.proofs.switch_rows.Lookup.row.Goals as goal

pub lookup_row-requires : goal.lookup_row-requires
lookup_row-requires c =
    let e = length_rows c.self.inside.count (lookup_row c.self.inside.at c.self.inside.text.now) in
    let n : length c.args.self.now ≡ c.self.inside.count = cc in
    omega (arith, c.self.invariant.0)

pub returns : goal.returns
returns c =
    let e = length_rows c.self.inside.count (lookup_row c.self.inside.at c.self.inside.text.now) in
    let n : length c.args.self.now ≡ c.self.inside.count = cc in
    let g = get_rows c.self.inside.count c.args.at (lookup_row c.self.inside.at c.self.inside.text.now) (omega arith) in
    cc
