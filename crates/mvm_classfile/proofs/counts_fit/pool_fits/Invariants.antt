use Rattle.std.proofs.Common.{◌≡◌, drop}
use Rattle.std.specs.List.{list_all}
use Rattle.mvm_classfile.specs.Writing.{fits_item}
use Rattle.mvm_classfile.proofs.counts_fit.pool_fits.Given as goal

abbrev pub invariant-loop-i : goal.invariant-loop-i
invariant-loop-i l = list_all fits_item (drop l.i l.pool) ≡ list_all fits_item l.pool
