-- What of an entry its place in the merge depends on.
use Rattle.std.specs.Prelude.{ℕ, List, map}
use Rattle.mvm_history.specs.declared.entry.Entry.{Entry}
use Rattle.mvm_history.specs.declared.merging.Row.{Row}
use Rattle.mvm_history.specs.declared.merging.Placed.{Placed}
use Rattle.mvm_history.specs.Merged.{Item, items_of, items_from}

abbrev pub row : Item → Row
row x = record { stamp = x.entry.stamp; isolate = x.isolate; place = x.place }

-- those of an isolate from a place on, and those of the isolates from a number on
abbrev pub rows_of : ℕ → ℕ → List Entry → List Row
rows_of isolate place es = map row (items_of isolate place es)

abbrev pub rows_from : ℕ → List (List Entry) → List Row
rows_from isolate hs = map row (items_from isolate hs)

abbrev pub placed_row : Row → Placed
placed_row x = record { isolate = x.isolate; place = x.place }
