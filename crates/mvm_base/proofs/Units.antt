-- The spelling of a unit, by its first byte, and that no text has two.
use Rattle.std.proofs.Common.{◌≡◌, ◌==◌, ℕ, zero, suc, get_or, subst, ◌+◌, ◌-◌, ◌*◌, ◌<◌, ◌≤◌, ◌/◌, ◌%◌, ◌^◌, Bool, true, false, ltb, List, [], ◌∷◌, ◌++◌, length, refl, sym, ap, ◌∙◌, append_assoc, append-nil, length-append, ◌≢◌, Result, Err, arith}
use Rattle.std.proofs.lemmas.Bool.Decides.{nat_tests}
use Rattle.std.proofs.lemmas.Grind.{flat_map-append}
use Rattle.mvm_base.specs.Answers.{AnswersUnless}
use Rattle.mvm_base.specs.ModifiedUtf8.{is_one_byte, spelled, spelled_all, AreUnits, BeginsNone, IsBad}
use Rattle.mvm_base.specs.declared.modified_utf8.Utf8Fault.{Utf8Fault}
use Rattle.mvm_base.specs.declared.modified_utf8.Utf8Fault.TheVariants.{Bad, OutOfMemory}

pub one_is : (u : ℕ) → is_one_byte u ≡ true → spelled u ≡ u ∷ []
unfolding spelled
one_is u h = rw h refl

pub two_is : (u : ℕ) → is_one_byte u ≡ false → u < 2048 → spelled u ≡ (192 + u / 64) ∷ (128 + u % 64) ∷ []
unfolding spelled
two_is u h k = rw h (grind (arith, nat_tests))

pub three_is : (u : ℕ) → 2048 ≤ u → spelled u ≡ (224 + u / 4096) ∷ (128 + u / 64 % 64) ∷ (128 + u % 64) ∷ []
unfolding spelled
three_is u h = grind (arith, nat_tests)

pub is_one : (u : ℕ) → is_one_byte u ≡ true → (0 < u) × (u < 128)
is_one u h = (grind (arith, nat_tests), grind (arith, nat_tests))

-- one byte, two or three
data Shape (u : ℕ) : Type 0 where
  One : is_one_byte u ≡ true → spelled u ≡ u ∷ [] → Shape u
  Two : is_one_byte u ≡ false → u < 2048 → spelled u ≡ (192 + u / 64) ∷ (128 + u % 64) ∷ [] → Shape u
  Three : 2048 ≤ u → spelled u ≡ (224 + u / 4096) ∷ (128 + u / 64 % 64) ∷ (128 + u % 64) ∷ [] → Shape u

shape : (u : ℕ) → Shape u
shape u = by (is_one_byte u) (ltb u 2048) refl refl
  where
    by : (a b : Bool) → is_one_byte u ≡ a → ltb u 2048 ≡ b → Shape u
    by true b h k = One h (one_is u h)
    by false true h k = let l : u < 2048 = grind (arith, nat_tests) in Two h l (two_is u h l)
    by false false h k = let l : 2048 ≤ u = grind (arith, nat_tests) in Three l (three_is u l)

-- ---- what a first byte says of the unit

pub one_of : (u : ℕ) (more : List ℕ) (b : ℕ) (rest : List ℕ) → b ∷ rest ≡ spelled u ++ more → b < 192 → (is_one_byte u ≡ true) × (u ≡ b) × (rest ≡ more)
one_of u more b rest e low = elim (shape u) [
  | One h s ↦ (let k = rw s at e in (h, cc, cc))
  | Two h l s ↦ (let k = rw s at e in let m : b ≡ 192 + u / 64 = cc in absurd (omega arith))
  | Three l s ↦ (let k = rw s at e in let m : b ≡ 224 + u / 4096 = cc in absurd (omega arith))
]

pub two_of : (u : ℕ) (more : List ℕ) (b : ℕ) (rest : List ℕ) → b ∷ rest ≡ spelled u ++ more → 192 ≤ b → b < 224 → (is_one_byte u ≡ false) × (rest ≡ (128 + u % 64) ∷ more) × (u ≡ (b - 192) * 64 + u % 64) × (u % 64 < 64)
two_of u more b rest e low high = elim (shape u) [
  | One h s ↦ (let k = rw s at e in let m : b ≡ u = cc in let o = is_one u h in absurd (omega (arith, o.1)))
  | Two h l s ↦ (let k = rw s at e in let m : b ≡ 192 + u / 64 = cc in (h, cc, omega arith, omega arith))
  | Three l s ↦ (let k = rw s at e in let m : b ≡ 224 + u / 4096 = cc in absurd (omega arith))
]

pub three_of : (u : ℕ) (more : List ℕ) (b : ℕ) (rest : List ℕ) → b ∷ rest ≡ spelled u ++ more → 224 ≤ b → (2048 ≤ u) × (rest ≡ (128 + u / 64 % 64) ∷ (128 + u % 64) ∷ more) × (u ≡ (b - 224) * 4096 + u / 64 % 64 * 64 + u % 64) × (b ≡ 224 + u / 4096)
three_of u more b rest e low = elim (shape u) [
  | One h s ↦ (let k = rw s at e in let m : b ≡ u = cc in let o = is_one u h in absurd (omega (arith, o.1)))
  | Two h l s ↦ (let k = rw s at e in let m : b ≡ 192 + u / 64 = cc in absurd (omega arith))
  | Three l s ↦ (let k = rw s at e in let m : b ≡ 224 + u / 4096 = cc in (l, cc, omega arith, m))
]

pub none_of : (u : ℕ) (more : List ℕ) → [] ≡ spelled u ++ more → ⊥
none_of u more e = elim (shape u) [
  | One h s ↦ (let k = rw s at e in cc)
  | Two h l s ↦ (let k = rw s at e in cc)
  | Three l s ↦ (let k = rw s at e in cc)
]

-- ---- the unit that is read is spelled so

pub two_again : (b low : ℕ) → 192 ≤ b → b < 224 → low < 64 → is_one_byte ((b - 192) * 64 + low) ≡ false → spelled ((b - 192) * 64 + low) ≡ b ∷ (128 + low) ∷ []
two_again b low l h k o =
    let u = (b - 192) * 64 + low in
    let x : 192 + ((b - 192) * 64 + low) / 64 ≡ b = omega arith in
    let y : 128 + ((b - 192) * 64 + low) % 64 ≡ 128 + low = omega arith in
    two_is ((b - 192) * 64 + low) o (omega arith) ∙ rw (x, y) refl

pub three_again : (b middle low : ℕ) → 224 ≤ b → middle < 64 → low < 64 → 2048 ≤ (b - 224) * 4096 + middle * 64 + low → spelled ((b - 224) * 4096 + middle * 64 + low) ≡ b ∷ (128 + middle) ∷ (128 + low) ∷ []
three_again b middle low l m k o =
    let x : 224 + ((b - 224) * 4096 + middle * 64 + low) / 4096 ≡ b = omega arith in
    let y : 128 + ((b - 224) * 4096 + middle * 64 + low) / 64 % 64 ≡ 128 + middle = omega arith in
    let z : 128 + ((b - 224) * 4096 + middle * 64 + low) % 64 ≡ 128 + low = omega arith in
    three_is ((b - 224) * 4096 + middle * 64 + low) o ∙ rw (x, y, z) refl

-- ---- no text has two spellings

one_text : (u v : ℕ) (a b : List ℕ) → spelled u ++ a ≡ spelled v ++ b → (u ≡ v) × (a ≡ b)
one_text u v a b e = elim (shape u) [
  | One h s ↦ (let k = rw s at e in let o = is_one u h in let w = one_of v b u a k (omega (arith, o.1)) in (sym w.1, w.2))
  | Two h l s ↦ (let k = rw s at e in let w = two_of v b (192 + u / 64) ((128 + u % 64) ∷ a) k (omega arith) (omega arith) in let m : u % 64 ≡ v % 64 = omega (arith, ap first w.1) in (omega (arith, w.2), cc))
  | Three l s ↦ (let k = rw s at e in let w = three_of v b (224 + u / 4096) ((128 + u / 64 % 64) ∷ (128 + u % 64) ∷ a) k (omega arith) in
      let m : u / 64 % 64 ≡ v / 64 % 64 = omega (arith, ap first w.1) in let n : u % 64 ≡ v % 64 = omega (arith, ap second w.1) in (omega (arith, w.2), cc))
]
  where
    first : List ℕ → ℕ
    first [] = 0
    first (x ∷ xs) = x

    second : List ℕ → ℕ
    second [] = 0
    second (x ∷ xs) = first xs

-- ---- what the readers of one unit answer

pub two_begins : (b low : ℕ) (rest more : List ℕ) → 192 ≤ b → b < 224 → low < 64 → rest ≡ (128 + low) ∷ more → is_one_byte ((b - 192) * 64 + low) ≡ false → b ∷ rest ≡ spelled ((b - 192) * 64 + low) ++ more
two_begins b low rest more l h k r o = rw (two_again b low l h k o, r) refl

pub two_short : (u b low : ℕ) (rest more other : List ℕ) → 192 ≤ b → b < 224 → rest ≡ (128 + low) ∷ more → is_one_byte ((b - 192) * 64 + low) ≡ true → b ∷ rest ≡ spelled u ++ other → ⊥
two_short u b low rest more other l h r o e =
    let w = two_of u other b rest e l h in
    let m : 128 + low ≡ 128 + u % 64 = cc in
    let n : low ≡ u % 64 = omega (arith, m) in
    let k : u ≡ (b - 192) * 64 + low = w.2 ∙ ap (λ (x : ℕ). (b - 192) * 64 + x) (sym n) in
    let t : is_one_byte u ≡ true = ap is_one_byte k ∙ o in
    cc

pub three_begins : (b middle low : ℕ) (rest next more : List ℕ) → 224 ≤ b → middle < 64 → low < 64 → rest ≡ (128 + middle) ∷ next → next ≡ (128 + low) ∷ more → 2048 ≤ (b - 224) * 4096 + middle * 64 + low → b ∷ rest ≡ spelled ((b - 224) * 4096 + middle * 64 + low) ++ more
three_begins b middle low rest next more l m k r s o = rw (three_again b middle low l m k o, r, s) refl

pub three_short : (u b middle low : ℕ) (rest next more other : List ℕ) → 224 ≤ b → rest ≡ (128 + middle) ∷ next → next ≡ (128 + low) ∷ more → (b - 224) * 4096 + middle * 64 + low < 2048 → b ∷ rest ≡ spelled u ++ other → ⊥
three_short u b middle low rest next more other l r s o e =
    let w = three_of u other b rest e l in
    let m : 128 + middle ≡ 128 + u / 64 % 64 = cc in
    let n : 128 + low ≡ 128 + u % 64 = cc in
    omega (arith, w.0, w.2, w.3)

pub three_cut : (u b middle : ℕ) (rest next other : List ℕ) → 224 ≤ b → rest ≡ (128 + middle) ∷ next → ((low : ℕ) (more : List ℕ) → low < 64 → next ≡ (128 + low) ∷ more → ⊥) → b ∷ rest ≡ spelled u ++ other → ⊥
three_cut u b middle rest next other l r none e =
    let w = three_of u other b rest e l in
    none (u % 64) other (omega arith) cc

pub no_first : (u b : ℕ) (rest other : List ℕ) → u < 2 ^ 16 → 240 ≤ b → b ∷ rest ≡ spelled u ++ other → ⊥
no_first u b rest other h l e =
    let w = three_of u other b rest e (omega arith) in
    omega (arith, w.3)

pub not_one : (u b : ℕ) (rest other : List ℕ) → b < 192 → is_one_byte b ≡ false → b ∷ rest ≡ spelled u ++ other → ⊥
not_one u b rest other l o e =
    let w = one_of u other b rest e l in
    let t : is_one_byte b ≡ true = ap is_one_byte (sym w.1) ∙ w.0 in
    cc

-- ---- whole texts

-- What spelled units leave, where no unit begins there, is one thing.
pub one_cut : (xs ys s t : List ℕ) → AreUnits xs → AreUnits ys → BeginsNone s → BeginsNone t → spelled_all xs ++ s ≡ spelled_all ys ++ t → (xs ≡ ys) × (s ≡ t)
one_cut [] [] s t p q a b e = (refl, e)
one_cut [] (y ∷ ys) s t p q a b e = absurd (a y (spelled_all ys ++ t) (q 0 0 (omega arith)) (e ∙ append_assoc (spelled y) (spelled_all ys) t))
one_cut (x ∷ xs) [] s t p q a b e = absurd (b x (spelled_all xs ++ s) (p 0 0 (omega arith)) (sym e ∙ append_assoc (spelled x) (spelled_all xs) s))
one_cut (x ∷ xs) (y ∷ ys) s t p q a b e =
    let f = one_text x y (spelled_all xs ++ s) (spelled_all ys ++ t) (sym (append_assoc (spelled x) (spelled_all xs) s) ∙ e ∙ append_assoc (spelled y) (spelled_all ys) t) in
    let g = one_cut xs ys s t (λ k d l. p (suc k) d (omega arith)) (λ k d l. q (suc k) d (omega arith)) a b f.1 in
    (cc, g.1)

pub none_left : BeginsNone []
none_left u more h e = none_of u more e

-- where the bytes of these units end, no unit begins
record Cut (bytes units rest : List ℕ) : Type 0 where
  are_units : AreUnits units
  bytes_are : bytes ≡ spelled_all units ++ rest
  begins_none : BeginsNone rest

same_cut : (bytes units rest xs s : List ℕ) → Cut bytes units rest → Cut bytes xs s → (units ≡ xs) × (rest ≡ s)
same_cut bytes units rest xs s a b = one_cut units xs rest s a.are_units b.are_units a.begins_none b.begins_none (sym a.bytes_are ∙ b.bytes_are)

whole : (bytes units : List ℕ) → AreUnits units → bytes ≡ spelled_all units → Cut bytes units []
whole bytes units h e = record { are_units = h; bytes_are = e ∙ sym (append-nil (spelled_all units)); begins_none = none_left }

pub fault_only : (bytes units rest xs : List ℕ) → AreUnits units → bytes ≡ spelled_all units ++ rest → BeginsNone rest → rest ≢ [] → AreUnits xs → bytes ≡ spelled_all xs → ⊥
fault_only bytes units rest xs h e n some k f = some (same_cut bytes units rest xs [] (record { are_units = h; bytes_are = e; begins_none = n }) (whole bytes xs k f)).1

pub fault_is : (bytes units rest : List ℕ) → AreUnits units → bytes ≡ spelled_all units ++ rest → BeginsNone rest → rest ≢ [] → IsBad bytes (length bytes - length rest)
fault_is bytes units rest h e n some = record {
  units = units;
  rest = rest;
  are_units = h;
  bytes_are = e;
  place_is = omega (arith, ap length e, length-append (spelled_all units) rest);
  is_some = some;
  begins_none = n;
}

pub fault_place : (bytes units rest : List ℕ) (place : ℕ) → AreUnits units → bytes ≡ spelled_all units ++ rest → BeginsNone rest → IsBad bytes place → place ≡ length bytes - length rest
fault_place bytes units rest place h e n bad =
    let k = same_cut bytes units rest bad.units bad.rest (record { are_units = h; bytes_are = e; begins_none = n }) (record { are_units = bad.are_units; bytes_are = bad.bytes_are; begins_none = bad.begins_none }) in
    omega (arith, bad.place_is, ap length e, length-append (spelled_all units) rest, ap (λ (x : List ℕ). length (spelled_all x)) k.0)

abbrev answered : Result (List ℕ) Utf8Fault → Result (List ℕ) Utf8Fault
answered r = r

pub fault_there : (bytes : List ℕ) (n place : ℕ) → answered (Err (Bad n)) ≡ Err (Bad place) → IsBad bytes n → IsBad bytes place
fault_there bytes n place e bad = let k : n ≡ place = cc in subst (IsBad bytes) k bad

pub told_there : (n place : ℕ) → place ≡ n → AnswersUnless OutOfMemory (answered (Err (Bad n))) (Err (Bad place))
told_there n place e = λ wanted. cc

pub whole_only : (bytes units xs : List ℕ) → AreUnits units → bytes ≡ spelled_all units → AreUnits xs → bytes ≡ spelled_all xs → xs ≡ units
whole_only bytes units xs h e k f = (same_cut bytes xs [] units [] (whole bytes xs k f) (whole bytes units h e)).0

pub whole_place : (bytes units : List ℕ) (place : ℕ) → AreUnits units → bytes ≡ spelled_all units → IsBad bytes place → ⊥
whole_place bytes units place h e bad = fault_only bytes bad.units bad.rest units bad.are_units bad.bytes_are bad.begins_none bad.is_some h e

pub one_more : (units : List ℕ) (u : ℕ) → AreUnits units → u < 2 ^ 16 → AreUnits (units ++ u ∷ [])
one_more [] u h l = λ k d m. (let z : k ≡ 0 = omega arith in subst (λ (i : ℕ). get_or (u ∷ []) i d < 2 ^ 16) (sym z) l)
one_more (x ∷ xs) u h l = by (one_more xs u (λ k d m. h (suc k) d (omega arith)) l)
  where
    by : AreUnits (xs ++ u ∷ []) → AreUnits ((x ∷ xs) ++ u ∷ [])
    by more zero d m = h 0 d (omega arith)
    by more (suc k) d m = more k d (omega arith)

pub spelled_more : (bytes units rest more : List ℕ) (u : ℕ) → bytes ≡ spelled_all units ++ rest → rest ≡ spelled u ++ more → bytes ≡ spelled_all (units ++ u ∷ []) ++ more
spelled_more bytes units rest more u e f = rw (e, f, flat_map-append spelled units (u ∷ []), append-nil (spelled u), append_assoc (spelled_all units) (spelled u) more) refl

pub shorter : (rest more : List ℕ) (u : ℕ) → rest ≡ spelled u ++ more → length more < length rest
shorter rest more u e = elim (shape u) [
  | One h s ↦ (let k = rw s at e in omega (arith, ap length k))
  | Two h l s ↦ (let k = rw s at e in omega (arith, ap length k))
  | Three l s ↦ (let k = rw s at e in omega (arith, ap length k))
]

pub some_left : (rest : List ℕ) → false ≡ (length rest == 0) → rest ≢ []
some_left rest h e = let k = rw e at h in cc

pub none_now : (bytes units rest : List ℕ) → true ≡ (length rest == 0) → bytes ≡ spelled_all units ++ rest → bytes ≡ spelled_all units
none_now bytes units [] h e = e ∙ append-nil (spelled_all units)
none_now bytes units (x ∷ rest) h e = let l : length (x ∷ rest) ≡ 0 = grind (arith, nat_tests) in absurd (omega arith)

pub one_begins : (b u v : ℕ) (rest : List ℕ) → u ≡ b → v ≡ b → is_one_byte u ≡ true → b ∷ rest ≡ spelled v ++ rest
one_begins b u v rest e f h = rw (f, one_is b (ap is_one_byte (sym e) ∙ h)) refl

-- ---- no text has more units than bytes

spelled_some : (unit : ℕ) → 1 ≤ length (spelled unit)
spelled_some unit = elim (shape unit) [
  | One h s ↦ omega (arith, ap length s)
  | Two h l s ↦ omega (arith, ap length s)
  | Three l s ↦ omega (arith, ap length s)
]

-- each unit takes a byte at least
pub units_spelled : (units : List ℕ) → length units ≤ length (spelled_all units)
units_spelled [] = omega arith
units_spelled (unit ∷ units) =
    let one = spelled_some unit in
    let more = units_spelled units in
    let all = length-append (spelled unit) (spelled_all units) in
    omega (arith, one, more, all)
