-- Regions and pools as contracts see them.
use Rattle.std.specs.Prelude.{ℕ, ◌-◌, List, [], ◌∷◌, length, map, if◌then◌else◌, ◌==◌}

-- the words of a region, and how many of them are carved
pub record Words : Type 0 where
  pub words : List ℕ
  pub carved : ℕ

-- how many words are not carved
abbrev pub left : Words → ℕ
left region = length region.words - region.carved

-- how many regions a pool keeps at most, and the lengths of those that it keeps
pub record Kept : Type 0 where
  pub most : ℕ
  pub lengths : List ℕ

abbrev pub lengths_of : List Words → List ℕ
lengths_of regions = map (λ region. length region.words) regions

-- the list without the first that is this number
abbrev pub without : ℕ → List ℕ → List ℕ
without n [] = []
without n (m ∷ ms) = if m == n then ms else m ∷ without n ms
