use Rattle.mvm_mirror.specs.Kept.{classes_of}
use Rattle.mvm_isolate.specs.Sound.{Loads}
use Rattle.mvm_isolate.proofs.Throwables.{AreThrownBelow}
use Rattle.mvm_isolate.proofs.load.thrown_classes.Given as goal

abbrev pub invariant-loop-thrown : goal.invariant-loop-thrown
invariant-loop-thrown g l = record { loads : Loads l.table.files l.set l.fn.mirrors l.mirrors; thrown : AreThrownBelow (classes_of l.mirrors) l.numbers l.thrown-index }
