-- Items that stand packed in a word: its digits to the base 2 ^ bits, the lowest first.
use Rattle.std.specs.Prelude.{ℕ, zero, suc, ◌+◌, ◌*◌, ◌/◌, ◌%◌, ◌^◌, List, [], ◌∷◌}

-- so many digits of a word
abbrev pub digits : ℕ → ℕ → ℕ → List ℕ
digits zero bits w = []
digits (suc n) bits w = w % 2 ^ bits ∷ digits n bits (w / 2 ^ bits)

-- the item that begins at this bit
unfoldable pub item_at : ℕ → ℕ → ℕ → ℕ
item_at bits shift w = w / 2 ^ shift % 2 ^ bits

-- the word with another item there: what stands above it, the item, and what stands below it
unfoldable pub replaced : ℕ → ℕ → ℕ → ℕ → ℕ
replaced bits shift v w = (w / 2 ^ shift / 2 ^ bits * 2 ^ bits + v) * 2 ^ shift + w % 2 ^ shift
