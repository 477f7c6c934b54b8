-- A text cut behind its first line.
use Rattle.std.specs.Prelude.{ℕ, suc, max, List, [], ◌∷◌, length, Option, Some, None, if◌then◌else◌, ◌==◌}
use Rattle.mvm_listing.specs.Assembly.{lines_of}

-- how many bytes stand before the first line feed
abbrev pub line_length : List ℕ → ℕ
line_length [] = 0
line_length (c ∷ cs) = if c == 10 then 0 else suc (line_length cs)

-- the lines behind the first, of what follows it
abbrev pub lines_behind : Option (List ℕ) → List (List ℕ)
lines_behind None = []
lines_behind (Some text) = lines_of text

-- as many lines as it may have
abbrev pub room : Option (List ℕ) → ℕ
room None = 0
room (Some text) = max (length text) 1
