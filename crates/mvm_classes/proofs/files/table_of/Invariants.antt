-- The classes so far are those of the words so far, and the store has the same files as before.
use Rattle.std.proofs.Common.{◌≡◌, take, map}
use Rattle.std.specs.Prelude.{IfSome, string_bytes}
use Rattle.mvm_classes.specs.Words.{AreOf}
use Rattle.mvm_classes.proofs.files.table_of.Given as goal

abbrev pub invariant-loop-i : goal.invariant-loop-i
invariant-loop-i g l = record {
  kept : g.S.Store.files l.store ≡ g.S.Store.files l.initial.store;
  of : IfSome (g.S.Store.files l.initial.store) (λ files. AreOf files (take l.i (map string_bytes l.words)) l.classes);
}
