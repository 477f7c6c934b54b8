use Rattle.std.proofs.Common.{◌≡◌, take}
use Rattle.mvm_base.specs.ModifiedUtf8.{spelled_all}
use Rattle.mvm_base.proofs.modified_utf8.encode_mutf8.Given as goal

abbrev pub invariant-loop-unit : goal.invariant-loop-unit
invariant-loop-unit l = l.bytes.items ≡ spelled_all (take l.unit-index l.name)
