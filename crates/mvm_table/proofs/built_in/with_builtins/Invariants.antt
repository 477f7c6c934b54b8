use Rattle.std.proofs.Common.{◌≡◌, ◌<◌, ℕ}
use Rattle.mvm_table.specs.BuiltIn.{HasBuiltins}
use Rattle.mvm_table.proofs.built_in.with_builtins.Given as goal

abbrev pub invariant-loop-set : goal.invariant-loop-set
invariant-loop-set g l = record {
  files : l.table.files ≡ l.initial.table.files;
  builtins : (set : ℕ) → set < l.set → HasBuiltins l.table set;
}
