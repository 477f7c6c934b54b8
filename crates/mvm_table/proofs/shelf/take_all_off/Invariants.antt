use Rattle.std.proofs.Common.{◌≡◌, vec_len}
use Rattle.mvm_table.specs.Contents.{all_off}
use Rattle.mvm_table.proofs.shelf.take_all_off.Given as goal

abbrev pub invariant-loop-class : goal.invariant-loop-class
invariant-loop-class l = all_off l.classes.items l.shelves.items ≡ all_off l.initial.classes.items l.initial.shelves.items

abbrev pub decreases-loop-class : goal.decreases-loop-class
decreases-loop-class l = vec_len l.classes
