-- The first character of UTF-16 units, and what it is shown as.
use Rattle.std.proofs.Common.{◌≡◌, ℕ, ◌<◌, ◌≤◌, true, false, ◌&&◌, List, [], ◌∷◌, ◌++◌, length, get_or, drop, refl, arith}
use Rattle.std.specs.Prelude.{Option, Some}
use Rattle.std.specs.Char.Utf16.{utf16_chars, lone_unit_char, surrogate_pair_char, is_high_surrogate, is_low_surrogate}
use Rattle.mvm_native.specs.Texts.{shown, shown_character}

pub chars_of_one : (units : List ℕ) → 0 < length units → length units < 2 → utf16_chars units ≡ lone_unit_char (get_or units 0 0) ∷ utf16_chars (drop 1 units)
unfolding utf16_chars
chars_of_one [] some few = absurd (omega arith)
chars_of_one (u ∷ []) some few = refl
chars_of_one (u ∷ v ∷ us) some few = absurd (omega arith)

pub chars_alone : (units : List ℕ) → 2 ≤ length units → (is_high_surrogate (get_or units 0 0) && is_low_surrogate (get_or units 1 0)) ≡ false
    → utf16_chars units ≡ lone_unit_char (get_or units 0 0) ∷ utf16_chars (drop 1 units)
unfolding utf16_chars
chars_alone [] some apart = absurd (omega arith)
chars_alone (u ∷ []) some apart = absurd (omega arith)
chars_alone (u ∷ v ∷ us) some apart = rw apart

pub chars_paired : (units : List ℕ) → 2 ≤ length units → (is_high_surrogate (get_or units 0 0) && is_low_surrogate (get_or units 1 0)) ≡ true
    → utf16_chars units ≡ Some (surrogate_pair_char (get_or units 0 0) (get_or units 1 0)) ∷ utf16_chars (drop 2 units)
unfolding utf16_chars
chars_paired [] some paired = absurd (omega arith)
chars_paired (u ∷ []) some paired = absurd (omega arith)
chars_paired (u ∷ v ∷ us) some paired = rw paired

pub shown_first : (units rest : List ℕ) (character : Option ℕ) → utf16_chars units ≡ character ∷ utf16_chars rest → shown units ≡ shown_character character ++ shown rest
unfolding shown
shown_first units rest character first = rw first

pub shown_none : (units : List ℕ) → length units ≡ 0 → shown units ≡ []
unfolding shown utf16_chars
shown_none [] none = refl
shown_none (unit ∷ units) none = absurd (omega arith)
