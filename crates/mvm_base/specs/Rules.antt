-- Rules that are tested in an order: the first fault is the answer.
use Rattle.std.specs.Prelude.{ℕ, ◌+◌, List, [], ◌∷◌, ◌++◌, Bool, true, false, Result, Ok, Err}

-- the fault, where the test does not hold
abbrev pub expect : {E : Type 0} → Bool → E → Result (Unit {0}) E
expect true fault = Ok tt
expect false fault = Err fault

infixl 10 ◌and_then◌
-- one rule, and then another
abbrev pub ◌and_then◌ : {A E : Type 0} → Result (Unit {0}) E → Result A E → Result A E
(Ok done) and_then next = next
(Err fault) and_then next = Err fault

-- each value keeps the rule
abbrev pub each : {A E : Type 0} → (A → Result (Unit {0}) E) → List A → Result (Unit {0}) E
each rule [] = Ok tt
each rule (x ∷ xs) = rule x and_then each rule xs

-- the same, where the values are numbered, the first with this number
abbrev pub each_from : {A E : Type 0} → ℕ → (ℕ → A → Result (Unit {0}) E) → List A → Result (Unit {0}) E
each_from n rule [] = Ok tt
each_from n rule (x ∷ xs) = rule n x and_then each_from (n + 1) rule xs

-- the same, where the rule looks at the values before, too
abbrev pub each_after : {A E : Type 0} → List A → (List A → A → Result (Unit {0}) E) → List A → Result (Unit {0}) E
each_after before rule [] = Ok tt
each_after before rule (x ∷ xs) = rule before x and_then each_after (before ++ x ∷ []) rule xs
