-- Numbers: decimal digits with an optional minus before them, or `0x` and hexadecimal digits of either case. Leading zeros may
-- stand in both.
use Rattle.std.specs.Prelude.{ℕ, suc, ◌^◌, min, ℤ, pos, negsuc, neg_ℤ, List, [], ◌∷◌, Bool, nat_lt, ◌==◌, if◌then◌else◌, Option, Some, None, option_map}
use Rattle.std.specs.Char.{digit_value}
use Rattle.std.specs.List.{list_all}
use Rattle.std.specs.Str.Parse.{digits_value}

-- what no field of a class file holds, whether it is positive or negative
abbrev pub too_large : ℕ
too_large = 2 ^ 64

-- The number that digits spell: one digit or more, and nothing else. Digits are many as they like: a number that no field holds
-- counts as the least of them.
abbrev pub digits_in : ℕ → List ℕ → Option ℕ
digits_in radix [] = None
digits_in radix (d ∷ ds) = if list_all (λ x. nat_lt (digit_value x) radix) (d ∷ ds) then Some (min (digits_value radix (d ∷ ds)) too_large) else None

-- what stands behind a 0, if it is an x and hexadecimal digits
abbrev pub hexadecimal : List ℕ → Option ℤ
hexadecimal [] = None
hexadecimal (c ∷ ds) = if c == 120 then option_map pos (digits_in 16 ds) else None

-- with a minus before it, or in hexadecimal digits
abbrev pub marked : List ℕ → Option ℤ
marked [] = None
marked (c ∷ ds) =
    if c == 45 then option_map (λ n. neg_ℤ (pos n)) (digits_in 10 ds) else (
    if c == 48 then hexadecimal ds else None)

abbrev pub or_marked : Option ℕ → List ℕ → Option ℤ
or_marked (Some n) word = Some (pos n)
or_marked None word = marked word

-- the number that a word spells
unfoldable pub numeral : List ℕ → Option ℤ
numeral word = or_marked (digits_in 10 word) word

abbrev pub magnitude : ℤ → ℕ
magnitude (pos n) = n
magnitude (negsuc n) = suc n

-- a number that is kept as it is
abbrev pub is_short : ℤ → Bool
is_short z = nat_lt (magnitude z) too_large
