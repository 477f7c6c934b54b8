-- What was written, with the lines of the rest, is the lines of all.
use Rattle.std.proofs.Common.{◌≡◌, ◌++◌, drop}
use Rattle.std.specs.List.{flat_map}
use Rattle.mvm.specs.Report.{uncaught_text}
use Rattle.mvm.proofs.report.push_all_uncaught.Given as goal

abbrev pub invariant-loop-i : goal.invariant-loop-i
invariant-loop-i l = l.text ++ flat_map uncaught_text (drop l.i l.all) ≡ l.initial.text ++ flat_map uncaught_text l.all
