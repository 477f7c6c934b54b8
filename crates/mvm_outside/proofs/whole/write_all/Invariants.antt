use Rattle.std.proofs.Common.{◌≡◌, ◌-◌, ◌≤◌, length, take}
use Rattle.std.specs.Io.KnownBytes.{Appends}
use Rattle.mvm_outside.proofs.whole.write_all.Given as goal

abbrev pub invariant-loop-done : goal.invariant-loop-done
invariant-loop-done g l = record {
  bytes : Appends (g.K.Sink.taken l.initial.sink) (g.K.Sink.taken l.sink) (take l.done l.bytes);
  within : l.done ≤ length l.bytes;
  untouched : l.done ≡ 0 → l.sink ≡ l.initial.sink;
  faults : g.K.Sink.faults l.initial.sink ≤ g.K.Sink.faults l.sink;
  idle : g.K.Sink.idle l.initial.sink ≤ g.K.Sink.idle l.sink;
}

abbrev pub decreases-loop-done : goal.decreases-loop-done
decreases-loop-done g l = length l.bytes - l.done
