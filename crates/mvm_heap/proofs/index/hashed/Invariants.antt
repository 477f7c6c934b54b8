use Rattle.std.proofs.Common.{◌≡◌, ◌<◌, take, fold}
use Rattle.mvm_heap.specs.Index.{hashed_more}
use Rattle.mvm_heap.proofs.index.hashed.Given as goal

abbrev pub invariant-loop-unit : goal.invariant-loop-unit
invariant-loop-unit l = record { hash : l.hash ≡ fold hashed_more 0 (take l.unit-index l.units); small : l.hash < 4294967291 }
