use Rattle.mvm_table.specs.Contents.{AreShort}
use Rattle.mvm.proofs.set_rows.sources_of.Given as goal

abbrev pub invariant-loop-text : goal.invariant-loop-text
invariant-loop-text l = record { short : AreShort l.sources }
