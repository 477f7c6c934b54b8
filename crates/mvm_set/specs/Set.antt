-- The classes of a set: names with the numbers of their sources.
use Rattle.std.specs.Prelude.{ℕ, List, [], ◌∷◌, Option, Some, None, if◌then◌else◌}
use Rattle.std.specs.BTreeMap as tree
use Rattle.std.specs.BTreeMap.{BTreeMap}
use Rattle.std.specs.Cmp.Lexicographic.{slice_cmp}
use Rattle.std.specs.Ordering.{nat_cmp}
use Rattle.std.specs.Str.{bytes_eq}
use Rattle.mvm_set.specs.declared.set.SetRow.{SetRow}

-- the source of the class of a name: that of its first row
abbrev pub source_of : List ℕ → List SetRow → Option ℕ
source_of name [] = None
source_of name (row ∷ rows) = if bytes_eq row.name name then Some row.source else source_of name rows

-- what a map has for a name, where the units of its keys are told
abbrev pub look : {K : Type 0} → BTreeMap K ℕ → (K → List ℕ) → List ℕ → Option ℕ
look sources units name = tree.get_by (λ key. slice_cmp nat_cmp name (units key)) sources
