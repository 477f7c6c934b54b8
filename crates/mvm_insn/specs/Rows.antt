-- The rows of a switch, as they stand in a method's code (JVM Specification 6.5, tableswitch and lookupswitch).
use Rattle.std.specs.Prelude.{◌≡◌, ℕ, zero, suc, ◌<◌, ◌+◌, ◌*◌, ℤ, pos, ◌<ℤ◌, ◌+ℤ◌, List, [], ◌∷◌, drop, slice_get, map, Bool, true, ◌&&◌, int_lt, if◌then◌else◌, Option, Some, None}
use Rattle.std.specs.List.{range_with_len}
use Rattle.std.specs.Int.{w32, cast_signed}
use Rattle.std.specs.Ordering.{int_eq}
use Rattle.mvm_base.specs.Endian.{big_number}
use Rattle.mvm_insn.specs.declared.switch_rows.SwitchRow.{SwitchRow}

-- the number in two's complement in the four bytes behind so many times four
unfoldable pub word : List ℕ → ℕ → ℤ
word text i = cast_signed w32 (big_number 4 (drop (4 * i) text))

-- a row of a tableswitch at a place: its key is counted from the lowest, its target from the place
abbrev pub table_row : ℕ → ℤ → List ℕ → ℕ → SwitchRow
table_row at low text i = record { key = low +ℤ pos i; target = pos at +ℤ word text i }

-- a row of a lookupswitch at a place
abbrev pub lookup_row : ℕ → List ℕ → ℕ → SwitchRow
lookup_row at text i = record { key = word text (2 * i); target = pos at +ℤ word text (2 * i + 1) }

-- so many rows
unfoldable pub rows : ℕ → (ℕ → SwitchRow) → List SwitchRow
rows count row = map row (range_with_len 0 count)

-- a key is below the next, from the first on, so many times
abbrev pub rising : ℕ → (ℕ → ℤ) → Bool
rising zero key = true
rising (suc n) key = rising n key && int_lt (key n) (key (n + 1))

-- the key of each row is below those of all rows behind it
abbrev pub KeysRise : List SwitchRow → Type 0
KeysRise rows = (i j : ℕ) (first second : SwitchRow) → i < j → slice_get rows i ≡ Some first → slice_get rows j ≡ Some second → first.key <ℤ second.key

-- the target of the row that has a key
abbrev pub target_in : List SwitchRow → ℤ → Option ℤ
target_in [] key = None
target_in (r ∷ rs) key = if int_eq r.key key then Some r.target else target_in rs key

-- a switch: where to go for a key of no row, and the rows, in the order of their keys
pub record SwitchParts : Type 0 where
  pub otherwise : ℤ
  pub rows : List SwitchRow
