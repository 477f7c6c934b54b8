use Rattle.std.proofs.Common.{◌≡◌, ◌+◌, drop}
use Rattle.std.specs.Prelude.{map}
use Rattle.mvm_isolate.specs.Natives.{all_suit, type_of_shape}
use Rattle.mvm_isolate.specs.Numbered.{look_of, named}
use Rattle.mvm_invoke.proofs.native.all_suit.Given as goal

abbrev pub invariant-loop-i : goal.invariant-loop-i
invariant-loop-i g l = all_suit (look_of l.isolate) (named l.isolate) (map type_of_shape (drop l.i l.shapes)) (drop (l.i + l.from) l.words) ≡ all_suit (look_of l.isolate) (named l.isolate) (map type_of_shape l.shapes) (drop l.from l.words)
