use Rattle.std.proofs.Common.{◌≡◌, drop}
use Rattle.mvm_select.specs.Told.{place_from}
use Rattle.mvm_select.proofs.told.place_of.Given as goal

abbrev pub invariant-loop-i : goal.invariant-loop-i
invariant-loop-i l = place_from l.i l.name l.desc (drop l.i l.walk) l.own.file ≡ place_from 0 l.name l.desc l.walk l.own.file
