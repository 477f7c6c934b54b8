use Rattle.std.proofs.Common.{◌≡◌, ◌++◌, map, drop}
use Rattle.mvm_listing.specs.Disassembly.{with_label}
use Rattle.mvm_disassembler.specs.Steps.{shown_by}
use Rattle.mvm_disassembler.proofs.places.with_places.Given as goal

-- with the places that are left they are all
abbrev pub invariant-loop-target : goal.invariant-loop-target
invariant-loop-target l = l.places ++ map (with_label (shown_by l.begins)) (drop l.target-index l.targets) ≡ map (with_label (shown_by l.begins)) l.targets
