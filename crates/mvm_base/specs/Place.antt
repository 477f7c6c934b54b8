-- Bytes that are read from a place on.
use Rattle.std.specs.Prelude.{◌≡◌, ℕ, ◌+◌, List, length, take, drop, Result, Ok, Err, nat_lt, if◌then◌else◌}
use Rattle.byteorder.specs.Endian.{big_number}

-- what is left, and the place where it begins
pub record Place : Type 0 where
  pub at : ℕ
  pub rest : List ℕ

-- the next n bytes, or the place at which fewer are left
unfoldable pub run : ℕ → Place → Result (List ℕ × Place) ℕ
run n p = if nat_lt (length p.rest) n then Err p.at else Ok (take n p.rest, record { at = p.at + n; rest = drop n p.rest })

-- the number in those bytes, the high byte first (JVM Specification, chapter 4)
abbrev pub numbered : ℕ → Result (List ℕ × Place) ℕ → Result (ℕ × Place) ℕ
numbered n (Ok x) = Ok (big_number n x.0, x.1)
numbered n (Err at) = Err at

abbrev pub big : ℕ → Place → Result (ℕ × Place) ℕ
big n p = numbered n (run n p)

-- n bytes were read as a number, or fewer were left and nothing changed
abbrev pub Takes : ℕ → Result ℕ ℕ → Place → Place → Type 0
Takes n (Ok x) old new = big n old ≡ Ok (x, new)
Takes n (Err at) old new = (big n old ≡ Err at) × (new ≡ old)
