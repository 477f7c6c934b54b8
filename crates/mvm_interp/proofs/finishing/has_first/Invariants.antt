use Rattle.std.proofs.Common.{◌≡◌, drop}
use Rattle.std.specs.Prelude.{◌==◌}
use Rattle.std.specs.List.{list_any}
use Rattle.mvm_interp.proofs.finishing.has_first.Given as goal

abbrev pub invariant-loop-one : goal.invariant-loop-one
invariant-loop-one l = list_any (λ one. one.thread == 0) (drop l.one-index l.uncaught) ≡ list_any (λ one. one.thread == 0) l.uncaught
