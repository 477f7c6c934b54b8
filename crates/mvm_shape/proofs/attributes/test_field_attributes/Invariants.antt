use Rattle.std.proofs.Common.{◌≡◌, drop}
use Rattle.mvm_base.specs.Rules.{each}
use Rattle.mvm_shape.specs.Members.{field_attribute}
use Rattle.mvm_shape.proofs.attributes.test_field_attributes.Given as goal

abbrev pub invariant-loop-attribute : goal.invariant-loop-attribute
invariant-loop-attribute l = each (field_attribute l.pool l.member) (drop l.attribute-index l.member.attributes) ≡ each (field_attribute l.pool l.member) l.member.attributes
