-- How much a load has still to do: what makes it end.
use Rattle.std.specs.Prelude.{ℕ, ◌+◌, List, [], ◌∷◌, Bool, true, false}

abbrev pub weight_if : Bool → ℕ → ℕ
weight_if true n = 0
weight_if false n = n

-- what the names that do not pass a test weigh together
abbrev pub unpassed : (List ℕ → ℕ) → (List ℕ → Bool) → List (List ℕ) → ℕ
unpassed weight test [] = 0
unpassed weight test (name ∷ names) = weight_if (test name) (weight name) + unpassed weight test names
