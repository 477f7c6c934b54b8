use Rattle.std.proofs.Common.{◌≡◌, drop}
use Rattle.std.specs.Prelude.{IfSome}
use Rattle.std.specs.Option.{option_map}
use Rattle.mvm_current.specs.Keys.{frames_named}
use Rattle.mvm_isolate.specs.Numbered.{look_of, type_of, IsType}
use Rattle.mvm_throwing.specs.Unwinding.{unwinds}
use Rattle.mvm_throwing.proofs.unwinding.suffice.Given as goal

abbrev pub invariant-loop-i : goal.invariant-loop-i
invariant-loop-i l = record {
  same : unwinds (look_of l.isolate) l.left (drop l.i (frames_named l.isolate l.stack)) (option_map (type_of l.isolate) l.at) ≡ unwinds (look_of l.isolate) l.words (frames_named l.isolate l.stack) (option_map (type_of l.isolate) l.fn.at);
  typed : IfSome l.at (IsType l.isolate);
}
