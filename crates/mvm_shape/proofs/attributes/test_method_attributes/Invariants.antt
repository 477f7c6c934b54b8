use Rattle.std.proofs.Common.{◌≡◌, drop}
use Rattle.mvm_base.specs.Rules.{each}
use Rattle.mvm_shape.specs.Members.{method_attribute}
use Rattle.mvm_shape.proofs.attributes.test_method_attributes.Given as goal

abbrev pub invariant-loop-attribute : goal.invariant-loop-attribute
invariant-loop-attribute l = each (method_attribute l.pool) (drop l.attribute-index l.attributes) ≡ each (method_attribute l.pool) l.attributes
