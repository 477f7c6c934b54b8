use Rattle.std.proofs.Common.{List, sym, ap, ◌∙◌}
use Rattle.std.specs.List.{list_all}
use Rattle.mvm_statement.specs.declared.operand.KeyRow.{KeyRow}
use Rattle.mvm_statement.specs.declared.operand.Place.{Place}
use Rattle.mvm_listing.specs.Blocks.{place_of, fits_offset}
use Rattle.mvm_block.proofs.Tests.{lookup_tests}
use Rattle.mvm_block.proofs.fit.line_reaches.Goals as goal

pub returns-then-reaches-2 : goal.returns-then-reaches-2
returns-then-reaches-2 c =
    lookup_tests (λ (x : Place). fits_offset c.args.piece.now c.args.at (place_of c.args.labels.now x)) c.args.line.now c.in-Lookup.op c.in-Lookup.rows c.in-Lookup.otherwise
    c.reaches_rows.result c.in-Lookup.is
    (sym c.reaches-in-Lookup.ensures ∙ c.if-reaches-2.true)
    (c.reaches_rows.ensures
    ∙ ap (λ (rows : List KeyRow). list_all (λ (row : KeyRow). fits_offset c.args.piece.now c.args.at (place_of c.args.labels.now row.target)) rows) c.as_slice-then-reaches-2.ensures)
