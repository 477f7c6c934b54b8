use Rattle.std.proofs.Common.{◌≡◌, [], take, drop}
use Rattle.mvm_base.specs.Rules.{each_after}
use Rattle.mvm_shape.specs.Members.{field_rule}
use Rattle.mvm_layout.specs.Flags.{is_interface}
use Rattle.mvm_shape.specs.TextNumbers.{Holds, holds_pair}
use Rattle.mvm_shape.proofs.member_lists.test_fields.Given as goal

abbrev pub invariant-loop-field : goal.invariant-loop-field
invariant-loop-field l = record {
  holds : Holds l.info.pool l.numbers (holds_pair l.pairs) (take l.field-index l.info.fields);
  rest : each_after (take l.field-index l.info.fields) (field_rule l.info.pool (is_interface l.info.flags)) (drop l.field-index l.info.fields) ≡ each_after [] (field_rule l.info.pool (is_interface l.info.flags)) l.info.fields;
}
