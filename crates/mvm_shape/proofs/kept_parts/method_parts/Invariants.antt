use Rattle.std.proofs.Common.{◌≡◌, take}
use Rattle.std.specs.Prelude.{map}
use Rattle.mvm_shape.specs.Members.{method_part}
use Rattle.mvm_shape.proofs.kept_parts.method_parts.Given as goal

abbrev pub invariant-loop-method : goal.invariant-loop-method
invariant-loop-method l = l.parts ≡ map (method_part l.pool) (take l.method-index l.methods)
