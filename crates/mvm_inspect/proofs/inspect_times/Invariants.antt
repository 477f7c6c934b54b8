-- The finding so far is one of the bytes.
use Rattle.mvm_inspect.specs.Finding.{Finds}
use Rattle.mvm_inspect.proofs.inspect_times.Given as goal

abbrev pub invariant-loop : goal.invariant-loop
invariant-loop l = Finds l.bytes l.finding
