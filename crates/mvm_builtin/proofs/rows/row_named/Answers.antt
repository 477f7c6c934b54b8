use Rattle.std.proofs.Common.{sym, ◌∙◌}
use Rattle.mvm_builtin.proofs.Halving.{sorted_so}
use Rattle.mvm_builtin.proofs.Indexed.{leads, unnamed}
use Rattle.mvm_builtin.proofs.Computed.{rising, all_indexed, each_has_entry}
use Rattle.mvm_builtin.specs.Index.{index}
use Rattle.mvm_builtin.proofs.rows.row_named.Goals as goal

pub line_in-requires : goal.line_in-requires
line_in-requires c = sorted_so index rising

pub returns-in-Some : goal.returns-in-Some
returns-in-Some c = let r = rw c.from.ensures at c.row_from.ensures in r ∙ sym (leads c.args.name.now c.in-Some.line all_indexed c.in-Some.ensures)

pub returns-in-None : goal.returns-in-None
returns-in-None c = sym (unnamed c.args.name.now each_has_entry c.in-None.ensures)
