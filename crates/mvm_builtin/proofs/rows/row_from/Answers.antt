use Rattle.std.proofs.Common.{List, Option, Some, ◌+◌, ◌-◌, ◌≡◌, length, take, drop, sym, ap, ◌∙◌, arith}
use Rattle.std.specs.Borrow.{Bor}
use Rattle.std.proofs.lemmas.List.{take_all, length-drop}
use Rattle.mvm_builtin.specs.declared.table.Sort.{Sort}
use Rattle.mvm_builtin.specs.Table.{Line, Row, lines_of, until_class}
use Rattle.mvm_builtin.proofs.Indexed.{row_at_place}
use Rattle.mvm_builtin.proofs.rows.row_from.Goals as goal

abbrev some_row : Line → List Line → Option Row
some_row head lines = Some (record { head = head; lines = lines })

pub returns : goal.returns
returns c =
    let behind : List (Sort × Bor (List _) × Bor (List _)) = drop (c.args.at + 1) c.args.lines.now in
    let whole : take (length c.args.lines.now - (c.args.at + 1)) behind ≡ behind = take_all (length c.args.lines.now - (c.args.at + 1)) behind (omega (arith, length-drop (c.args.at + 1) c.args.lines.now)) in
    ap (some_row _) (c.until_class-lines.ensures ∙ ap (λ lines. until_class (lines_of lines)) whole)
    ∙ sym (row_at_place c.args.lines.now c.args.at _ (omega arith))
