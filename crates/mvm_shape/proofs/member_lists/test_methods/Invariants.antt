use Rattle.std.proofs.Common.{◌≡◌, [], take, drop}
use Rattle.mvm_base.specs.Rules.{each_after}
use Rattle.mvm_shape.specs.Members.{method_rule}
use Rattle.mvm_layout.specs.Flags.{is_interface}
use Rattle.mvm_shape.specs.TextNumbers.{Holds, holds_pair}
use Rattle.mvm_shape.proofs.member_lists.test_methods.Given as goal

abbrev pub invariant-loop-method : goal.invariant-loop-method
invariant-loop-method l = record {
  holds : Holds l.info.pool l.numbers (holds_pair l.pairs) (take l.method-index l.info.methods);
  rest : each_after (take l.method-index l.info.methods) (method_rule l.info.pool l.info.major (is_interface l.info.flags)) (drop l.method-index l.info.methods) ≡ each_after [] (method_rule l.info.pool l.info.major (is_interface l.info.flags)) l.info.methods;
}
