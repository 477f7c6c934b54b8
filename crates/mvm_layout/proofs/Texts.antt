-- A text is read from its modified UTF-8 as it is spelled.
use Rattle.std.proofs.Common.{◌≡◌, ℕ, zero, suc, ◌+◌, ◌-◌, ◌*◌, ◌/◌, ◌%◌, ◌<◌, ◌≤◌, ◌^◌, ltb, Bool, true, false, cond, List, [], ◌∷◌, ◌++◌, Option, Some, None, refl, sym, ap, ◌∙◌, arith}
use Rattle.std.specs.Prelude.{nat_lt, ◌&&◌}
use Rattle.std.specs.List.{list_all}
use Rattle.std.specs.Str.{bytes_eq}
use Rattle.std.proofs.lemmas.Bool.Decides.{nat_tests}
use Rattle.std.proofs.lemmas.Slice.Eq.{bytes_eq-Decides}
use Rattle.mvm_base.specs.ModifiedUtf8.{is_one_byte, spelled, spelled_all, AreUnits}
use Rattle.mvm_base.proofs.Units.{one_is, two_is, three_is, is_one}
use Rattle.mvm_layout.specs.Text.{is_further, first_bits, units_from, units_of, decoded_text}

-- ---- the bytes of one unit

starts : (bits byte : ℕ) (rest : List ℕ) → is_further byte ≡ false → units_from bits (byte ∷ rest) ≡ bits ∷ units_from (first_bits byte) rest
starts bits byte rest h = rw h refl

adds : (bits byte : ℕ) (rest : List ℕ) → is_further byte ≡ true → units_from bits (byte ∷ rest) ≡ units_from (bits * 64 + (byte - 128)) rest
adds bits byte rest h = rw h refl

is_not_further_low : (byte : ℕ) → byte < 128 → is_further byte ≡ false
is_not_further_low byte h = grind (arith, nat_tests)

is_not_further_high : (byte : ℕ) → 192 ≤ byte → is_further byte ≡ false
is_not_further_high byte h = grind (arith, nat_tests)

is_further_between : (low : ℕ) → low < 64 → is_further (128 + low) ≡ true
is_further_between low h = grind (arith, nat_tests)

bits_one : (byte : ℕ) → byte < 192 → first_bits byte ≡ byte
bits_one byte h = grind (arith, nat_tests)

bits_two : (high : ℕ) → high < 32 → first_bits (192 + high) ≡ high
bits_two high h = grind (arith, nat_tests)

bits_three : (high : ℕ) → first_bits (224 + high) ≡ high
bits_three high = grind (arith, nat_tests)

-- The bytes of a unit are no longer than a first byte, and further bytes that make it whole.
record Whole (unit : ℕ) (rest : List ℕ) : Type 0 where
  byte : ℕ
  more : List ℕ
  is : spelled unit ++ rest ≡ byte ∷ more
  first : is_further byte ≡ false
  made : units_from (first_bits byte) more ≡ units_from unit rest

two_made : (unit : ℕ) (rest : List ℕ) → units_from (unit / 64) ((128 + unit % 64) ∷ rest) ≡ units_from unit rest
two_made unit rest =
    adds (unit / 64) (128 + unit % 64) rest (is_further_between (unit % 64) (omega arith))
    ∙ ap (λ (bits : ℕ). units_from bits rest) (omega arith)

three_made : (unit : ℕ) (rest : List ℕ) → units_from (unit / 4096) ((128 + unit / 64 % 64) ∷ (128 + unit % 64) ∷ rest) ≡ units_from unit rest
three_made unit rest =
    adds (unit / 4096) (128 + unit / 64 % 64) ((128 + unit % 64) ∷ rest) (is_further_between (unit / 64 % 64) (omega arith))
    ∙ ap (λ (bits : ℕ). units_from bits ((128 + unit % 64) ∷ rest)) (omega arith)
    ∙ two_made unit rest

whole : (unit : ℕ) (rest : List ℕ) → unit < 2 ^ 16 → Whole unit rest
whole unit rest fits = by (is_one_byte unit) (ltb unit 2048) refl refl
  where
    by : (a b : Bool) → is_one_byte unit ≡ a → ltb unit 2048 ≡ b → Whole unit rest
    by true b h k =
        let o = is_one unit h in
        record { byte = unit; more = rest; is = rw (one_is unit h) refl; first = is_not_further_low unit o.1; made = ap (λ (bits : ℕ). units_from bits rest) (bits_one unit (omega (arith, o.1))) }
    by false true h k =
        let l : unit < 2048 = grind (arith, nat_tests) in
        record {
          byte = 192 + unit / 64;
          more = (128 + unit % 64) ∷ rest;
          is = rw (two_is unit h l) refl;
          first = is_not_further_high (192 + unit / 64) (omega arith);
          made = ap (λ (bits : ℕ). units_from bits ((128 + unit % 64) ∷ rest)) (bits_two (unit / 64) (omega arith)) ∙ two_made unit rest;
        }
    by false false h k =
        let l : 2048 ≤ unit = grind (arith, nat_tests) in
        record {
          byte = 224 + unit / 4096;
          more = (128 + unit / 64 % 64) ∷ (128 + unit % 64) ∷ rest;
          is = rw (three_is unit l) refl;
          first = is_not_further_high (224 + unit / 4096) (omega arith);
          made = ap (λ (bits : ℕ). units_from bits ((128 + unit / 64 % 64) ∷ (128 + unit % 64) ∷ rest)) (bits_three (unit / 4096)) ∙ three_made unit rest;
        }

-- ---- whole texts

tail_fits : (x : ℕ) (xs : List ℕ) → AreUnits (x ∷ xs) → AreUnits xs
tail_fits x xs h = λ k d l. h (suc k) d (omega arith)

-- behind the bits of a unit stand the spellings of others
from_spelled : (bits : ℕ) (units : List ℕ) → AreUnits units → units_from bits (spelled_all units) ≡ bits ∷ units
from_spelled bits [] h = refl
from_spelled bits (x ∷ xs) h =
    let w = whole x (spelled_all xs) (h 0 0 (omega arith)) in
    rw w.is (starts bits w.byte w.more w.first ∙ ap (λ (ns : List ℕ). bits ∷ ns) (w.made ∙ from_spelled x xs (tail_fits x xs h)))

pub units_of_spelled : (units : List ℕ) → AreUnits units → units_of (spelled_all units) ≡ units
units_of_spelled [] h = refl
units_of_spelled (x ∷ xs) h =
    let w = whole x (spelled_all xs) (h 0 0 (omega arith)) in
    rw w.is (w.made ∙ from_spelled x xs (tail_fits x xs h))

fit : (units : List ℕ) → list_all (λ unit. nat_lt unit (2 ^ 16)) units ≡ true → AreUnits units
fit [] h = λ k d l. absurd (omega arith)
fit (x ∷ xs) h = by (fit xs (grind (arith, nat_tests))) (grind (arith, nat_tests))
  where
    by : AreUnits xs → x < 2 ^ 16 → AreUnits (x ∷ xs)
    by more one zero d m = one
    by more one (suc k) d m = more k d (omega arith)

fit_again : (units : List ℕ) → AreUnits units → list_all (λ unit. nat_lt unit (2 ^ 16)) units ≡ true
fit_again [] h = refl
fit_again (x ∷ xs) h =
    let one : x < 2 ^ 16 = h 0 0 (omega arith) in
    let more : list_all (λ unit. nat_lt unit (2 ^ 16)) xs ≡ true = fit_again xs (tail_fits x xs h) in
    grind (arith, nat_tests)

same : (xs ys : List ℕ) → bytes_eq xs ys ≡ true → xs ≡ ys
same xs ys h = grind (arith, bytes_eq-Decides xs ys)

same_again : (xs ys : List ℕ) → xs ≡ ys → bytes_eq xs ys ≡ true
same_again xs ys h = grind (arith, bytes_eq-Decides xs ys)

-- what is read is spelled by the bytes
pub decoded_text-sound : (bytes units : List ℕ) → decoded_text bytes ≡ Some units → AreUnits units × (bytes ≡ spelled_all units)
unfolding decoded_text
decoded_text-sound bytes units e = by (list_all (λ unit. nat_lt unit (2 ^ 16)) (units_of bytes)) (bytes_eq (spelled_all (units_of bytes)) bytes) refl refl e
  where
    by : (a b : Bool) → list_all (λ unit. nat_lt unit (2 ^ 16)) (units_of bytes) ≡ a → bytes_eq (spelled_all (units_of bytes)) bytes ≡ b
        → cond (a && b) (Some (units_of bytes)) None ≡ Some units → AreUnits units × (bytes ≡ spelled_all units)
    by true true h k f =
        let u : units_of bytes ≡ units = cc in
        rw (← u) (fit (units_of bytes) h, sym (same (spelled_all (units_of bytes)) bytes k))
    by true false h k f = absurd cc
    by false true h k f = absurd cc
    by false false h k f = absurd cc

-- what the bytes spell is read
pub decoded_text-complete : (bytes units : List ℕ) → AreUnits units → bytes ≡ spelled_all units → decoded_text bytes ≡ Some units
unfolding decoded_text
decoded_text-complete bytes units h e =
    rw (e, units_of_spelled units h, fit_again units h, same_again (spelled_all units) (spelled_all units) refl) refl

-- what nothing spells has no text
pub decoded_text-none : (bytes : List ℕ) → ((units : List ℕ) → AreUnits units → bytes ≡ spelled_all units → ⊥) → decoded_text bytes ≡ None
decoded_text-none bytes none = by (decoded_text bytes) refl
  where
    by : (o : Option (List ℕ)) → decoded_text bytes ≡ o → o ≡ None
    by (Some units) e = let s = decoded_text-sound bytes units e in absurd (none units s.0 s.1)
    by None e = refl
