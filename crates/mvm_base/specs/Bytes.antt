-- Lists of numbers that are bytes.
use Rattle.std.specs.Prelude.{ℕ, ◌<◌, List, get_or}

-- each item is below 256; behind the end stands nothing, which counts as 0
abbrev pub AreBytes : List ℕ → Type 0
AreBytes text = (place : ℕ) → get_or text place 0 < 256
