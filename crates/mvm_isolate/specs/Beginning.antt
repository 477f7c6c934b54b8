-- What an isolate begins with.
use Rattle.std.specs.Prelude.{ℕ, List, [], map, None}
use Rattle.mvm_mirror.specs.Seen.{Seen}
use Rattle.mvm_mirror.specs.States.{first_state}
use Rattle.mvm_mirror.specs.Statics.{zero_of}
use Rattle.mvm_native.specs.declared.env.Env.{Env}
use Rattle.mvm_isolate.specs.Isolate.{Isolate}

-- classes at which nobody looked
abbrev pub unseen : Seen
unseen = record { states = first_state; statics = λ class name desc. zero_of desc; objects = λ class. None }

-- an isolate that has no objects yet
unfoldable pub bare : Env → Isolate
bare env = record {
  heap = env.heap.state;
  types = [];
  classes = unseen;
  arrays = λ shape. None;
  output = env.output;
  waits = env.waits;
}
