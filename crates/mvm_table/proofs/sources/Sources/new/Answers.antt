use Rattle.std.proofs.Common.{List, map, ap, ◌∙◌}
use Rattle.mvm_table.specs.Sources.{first_of}
use Rattle.mvm_table.specs.declared.source.SourceRow.{SourceRow}
use Rattle.mvm_table.proofs.Distinct.{told_all, are_apart}
use Rattle.mvm_table.proofs.sources.Sources.new.Goals as goal

pub invariant_of-result : goal.invariant_of-result
invariant_of-result c = are_apart c.args.sources c.empty_repeats.new.rows c.empty_repeats.ensures

pub returns : goal.returns
returns c =
    told_all c.args.sources c.empty_repeats.new.rows c.in_ok-firsts.firsts.items c.empty_repeats.ensures
    (c.in_ok-firsts.ensures ∙ ap (λ (sources : List SourceRow). map (first_of sources) sources) c.as_slice.ensures)
