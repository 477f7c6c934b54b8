use Rattle.std.proofs.Common.{List, sym, ap, ◌∙◌}
use Rattle.std.specs.List.{list_all}
use Rattle.mvm_statement.specs.declared.operand.KeyRow.{KeyRow}
use Rattle.mvm_listing.specs.Blocks.{is_known}
use Rattle.mvm_block.proofs.Tests.{lookup_tests}
use Rattle.mvm_block.proofs.fit.knows_line.Goals as goal

pub returns-then-knows-2 : goal.returns-then-knows-2
returns-then-knows-2 c =
    lookup_tests (is_known c.args.labels.now) c.args.line.now c.in-Lookup.op c.in-Lookup.rows c.in-Lookup.otherwise c.knows_rows.result c.in-Lookup.is
    (sym c.knows-in-Lookup.ensures ∙ c.if-knows-2.true)
    (c.knows_rows.ensures ∙ ap (λ (rows : List KeyRow). list_all (λ (row : KeyRow). is_known c.args.labels.now row.target) rows) c.as_slice-then-knows-2.ensures)
