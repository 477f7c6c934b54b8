use Rattle.std.proofs.Common.{◌≡◌, ◌++◌, map, drop}
use Rattle.mvm_listing.specs.Disassembly.{own_place}
use Rattle.mvm_disassembler.proofs.places.push_places.Given as goal

-- with the places that are left they are all
abbrev pub invariant-loop-target : goal.invariant-loop-target
invariant-loop-target l = l.out ++ map own_place (drop l.target-index l.targets) ≡ l.initial.out ++ map own_place l.targets
