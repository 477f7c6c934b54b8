-- The machine memory that texts to be interned want, taken before (JVM Specification 5.1).
use Rattle.std.specs.Prelude.{ℕ, ◌-◌}
use Rattle.mvm_heap.specs.Heap.{words, HasRoom}
use Rattle.mvm_isolate.specs.Numbered.{Numbered}

-- so many texts more can be interned without memory of the machine's own
abbrev pub MayIntern : Numbered → ℕ → Type 0
MayIntern n count = HasRoom n.env.heap.spare count count (n.env.heap.state.size - words n.env.heap.state.objects)
