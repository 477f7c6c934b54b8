use Rattle.std.proofs.Common.{List, ◌++◌, ap, ◌∙◌}
use Rattle.std.specs.Prelude.{ℤ}
use Rattle.std.specs.Int.{w128}
use Rattle.std.proofs.lemmas.Int.{to_z-of_z}
use Rattle.std.specs.List.{flat_map}
use Rattle.mvm_statement.specs.declared.operand.Place.{Place}
use Rattle.mvm_listing.specs.Range.{highest}
use Rattle.mvm_listing.specs.Encoding.{i4, padding, encoded}
use Rattle.mvm_block.specs.Ready.{offset_to}
use Rattle.mvm_block.proofs.Switches.{table_end}
use Rattle.mvm_block.proofs.encode.push_table.Goals as goal

pub returns : goal.returns
unfolding encoded
returns c =
    table_end c.push_targets.result c.args.out.now.items c.push_op.new.out.items c.push_padding.new.out.items c.push_offset.new.out.items c.push_bounds.new.out.items
    c.push_targets.new.out.items c.args.op (padding c.args.at) (i4 (offset_to c.args.labels.now c.args.at c.args.otherwise.now)) (i4 c.args.low) (i4 (highest c.args.low c.args.targets.now))
    (flat_map (λ (x : Place). i4 (offset_to c.args.labels.now c.args.at x)) c.as_slice.result.now)
    (flat_map (λ (x : Place). i4 (offset_to c.args.labels.now c.args.at x)) c.args.targets.now)
    c.in_ok-push_op.ensures c.in_ok-push_padding.ensures c.in_ok-push_offset.ensures
    (c.in_ok-push_bounds.ensures ∙ ap (λ (z : ℤ). c.push_offset.new.out.items ++ (i4 z ++ i4 (highest z c.args.targets.now))) (to_z-of_z w128 c.args.low c.ranges.low))
    (ap (λ (xs : List Place). flat_map (λ (x : Place). i4 (offset_to c.args.labels.now c.args.at x)) xs) c.as_slice.ensures)
    c.push_targets.ensures
