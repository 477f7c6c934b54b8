use Rattle.mvm_native.specs.Builders.{IsBuilder}
use Rattle.mvm_parts.proofs.appends.append_all.Given as goal

abbrev pub invariant-loop-turn : goal.invariant-loop-turn
invariant-loop-turn l = IsBuilder l.env.heap.state.objects l.builder
