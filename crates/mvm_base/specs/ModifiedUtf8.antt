-- Modified UTF-8 (JVM Specification 4.4.7): the text of a class file, unit by unit. A character beyond 16 bits is two units.
use Rattle.std.specs.Prelude.{◌≡◌, ◌≢◌, ℕ, ◌+◌, ◌<◌, ◌/◌, ◌%◌, ◌^◌, List, [], ◌∷◌, ◌++◌, length, All, flat_map, Bool, nat_lt, ◌&&◌, if◌then◌else◌}

abbrev pub is_one_byte : ℕ → Bool
is_one_byte unit = nat_lt 0 unit && nat_lt unit 128

-- The bytes of one unit: one byte from 1 to 127, two for 0 and below 2048, else three. Each byte but the first has six bits
-- of the unit under 128, and the first has those above under 192 or 224.
unfoldable pub spelled : ℕ → List ℕ
spelled unit =
    if is_one_byte unit then unit ∷ [] else (
    if nat_lt unit 2048 then (192 + unit / 64) ∷ (128 + unit % 64) ∷ [] else
    (224 + unit / 4096) ∷ (128 + unit / 64 % 64) ∷ (128 + unit % 64) ∷ [])

-- the bytes of a text
abbrev pub spelled_all : List ℕ → List ℕ
spelled_all units = flat_map spelled units

abbrev pub AreUnits : List ℕ → Type 0
AreUnits units = All (λ unit. unit < 2 ^ 16) units

-- no unit's spelling stands at the front
abbrev pub BeginsNone : List ℕ → Type 0
BeginsNone bytes = (unit : ℕ) (more : List ℕ) → unit < 2 ^ 16 → bytes ≡ spelled unit ++ more → ⊥

-- The first so many bytes spell some units, and what follows is not empty and begins with the spelling of no unit.
pub record IsBad (bytes : List ℕ) (place : ℕ) : Type 0 where
  pub units : List ℕ
  pub rest : List ℕ
  pub are_units : AreUnits units
  pub bytes_are : bytes ≡ spelled_all units ++ rest
  pub place_is : place ≡ length (spelled_all units)
  pub is_some : rest ≢ []
  pub begins_none : BeginsNone rest

-- the spelling of a unit, and more
abbrev pub Begins : ℕ → List ℕ → List ℕ → Type 0
Begins unit more bytes = bytes ≡ spelled unit ++ more
