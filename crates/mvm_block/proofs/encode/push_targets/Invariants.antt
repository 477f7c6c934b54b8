use Rattle.std.proofs.Common.{◌≡◌, ◌++◌, take}
use Rattle.std.specs.List.{flat_map}
use Rattle.mvm_statement.specs.declared.operand.Place.{Place}
use Rattle.mvm_listing.specs.Encoding.{i4}
use Rattle.mvm_block.specs.Ready.{offset_to}
use Rattle.mvm_block.proofs.encode.push_targets.Given as goal

abbrev pub invariant-loop-target : goal.invariant-loop-target
invariant-loop-target l = l.out.items ≡ l.initial.out.items ++ flat_map (λ (x : Place). i4 (offset_to l.labels l.at x)) (take l.target-index l.targets)
