use Rattle.std.proofs.Common.{◌≡◌, drop}
use Rattle.mvm_select.specs.Names.{has_class}
use Rattle.mvm_select.proofs.names.has_class.Given as goal

abbrev pub invariant-loop-other : goal.invariant-loop-other
invariant-loop-other l = has_class (drop l.other-index l.files) l.file ≡ has_class l.files l.file
