use Rattle.std.proofs.Common.{◌≡◌, drop}
use Rattle.std.specs.List.{filter}
use Rattle.mvm_shape.specs.Members.{is_named, first}
use Rattle.mvm_shape.proofs.attributes.first_named.Given as goal

abbrev pub invariant-loop-attribute : goal.invariant-loop-attribute
invariant-loop-attribute l = first (filter (is_named l.pool l.name) (drop l.attribute-index l.attributes)) ≡ first (filter (is_named l.pool l.name) l.attributes)
