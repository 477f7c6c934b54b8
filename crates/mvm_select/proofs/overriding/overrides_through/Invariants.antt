use Rattle.std.proofs.Common.{◌≡◌, drop}
use Rattle.mvm_set.specs.Members.{flags_at}
use Rattle.mvm_select.specs.Overriding.{overrides_through}
use Rattle.mvm_select.proofs.overriding.overrides_through.Given as goal

abbrev pub invariant-loop-third : goal.invariant-loop-third
invariant-loop-third l = overrides_through (flags_at l.name l.desc) (drop l.third-index l.walk) l.own l.base.file ≡ overrides_through (flags_at l.name l.desc) l.walk l.own l.base.file
