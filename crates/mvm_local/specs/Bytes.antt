-- Bytes in the middle of a method's code.
use Rattle.std.specs.Prelude.{◌≡◌, ℕ, ◌+◌, ◌≤◌, List, length, drop, Ok}
use Rattle.mvm_base.specs.Place.{Place, big}

-- what is left of the code from a place on
abbrev pub place : ℕ → List ℕ → Place
place at code = record { at = at; rest = drop at code }

-- so many bytes from a place on are a number, the high byte first
pub record Stands (n at : ℕ) (code : List ℕ) (x : ℕ) : Type 0 where
  pub read : big n (place at code) ≡ Ok (x, place (at + n) code)
  pub within : at + n ≤ length code
