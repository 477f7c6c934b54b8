-- No text has two faults, and a text of the set has none.
use Rattle.std.proofs.Common.{◌≡◌, ◌≢◌, ℕ, ◌≤◌, List, [], ◌∷◌, ◌++◌, length, refl, sym, ap, subst, ◌∙◌, append_assoc, append-nil, length-append, arith}
use Rattle.mvm_base.specs.DescriptorFaults.{IsBeginning, GoesWrong, IsFloat, IsBadAt, HasFloat, GoesBeyond, HasFault}
use Rattle.mvm_base.specs.declared.descriptor.DescFault.{DescFault}
use Rattle.mvm_base.specs.declared.descriptor.DescFault.TheVariants.{Empty, BadLetter, Open, Trailing, Float, OutOfMemory}

-- no text of the set is a proper beginning of another
abbrev pub EndsOnce : (List ℕ → Type 0) → Type 0
EndsOnce IsText = (t more : List ℕ) → IsText t → IsText (t ++ more) → more ≡ []

none_of : (s t : List ℕ) → s ++ t ≡ [] → s ≡ []
none_of [] t e = refl
none_of (x ∷ s) t e = absurd cc

-- ---- two beginnings of one text

-- the other ends before this letter, or goes on with it
data Compared (front : List ℕ) (letter : ℕ) (other : List ℕ) : Type 0 where
  Within : (k : List ℕ) → front ≡ other ++ k → Compared front letter other
  Beyond : (k : List ℕ) → other ≡ front ++ letter ∷ k → Compared front letter other

next : (x letter : ℕ) (front other : List ℕ) → Compared front letter other → Compared (x ∷ front) letter (x ∷ other)
next x letter front other (Within k e) = Within k (ap (λ (z : List ℕ). x ∷ z) e)
next x letter front other (Beyond k e) = Beyond k (ap (λ (z : List ℕ). x ∷ z) e)

compared : (front : List ℕ) (letter : ℕ) (rest other more : List ℕ) → front ++ letter ∷ rest ≡ other ++ more → Compared front letter other
compared front letter rest [] more e = Within front refl
compared [] letter rest (y ∷ other) more e = let k : y ≡ letter = cc in Beyond other (ap (λ (n : ℕ). n ∷ other) k)
compared (x ∷ front) letter rest (y ∷ other) more e =
    let k : x ≡ y = cc in
    let f : front ++ letter ∷ rest ≡ other ++ more = cc in
    subst (λ (n : ℕ). Compared (x ∷ front) letter (n ∷ other)) k (next x letter front other (compared front letter rest other more f))

record IsWithin (front other : List ℕ) : Type 0 where
  k : List ℕ
  is : front ≡ other ++ k

-- what begins a text of the set ends before the letter that goes wrong
within : (IsText : List ℕ → Type 0) (text front : List ℕ) (letter : ℕ) (other more : List ℕ) → GoesWrong IsText text front letter → text ≡ other ++ more → IsBeginning IsText other → IsWithin front other
within IsText text front letter other more w e b = by (compared front letter w.rest other more (sym w.text_is ∙ e))
  where
    by : Compared front letter other → IsWithin front other
    by (Within k f) = record { k = k; is = f }
    by (Beyond k f) =
        let g : other ++ b.more ≡ (front ++ letter ∷ []) ++ (k ++ b.more) = ap (λ (z : List ℕ). z ++ b.more) f ∙ append_assoc front (letter ∷ k) b.more ∙ sym (append_assoc front (letter ∷ []) (k ++ b.more)) in
        absurd (w.stops (record { more = k ++ b.more; goes_on = subst IsText g b.goes_on }))

whole_begins : (IsText : List ℕ → Type 0) (t : List ℕ) → IsText t → IsBeginning IsText t
whole_begins IsText t h = record { more = []; goes_on = subst IsText (sym (append-nil t)) h }

-- ---- pairs of faults

record Same (front other : List ℕ) (letter next : ℕ) : Type 0 where
  fronts : front ≡ other
  letters : letter ≡ next

same_letter : (front : List ℕ) (letter next : ℕ) (s t : List ℕ) → front ++ letter ∷ s ≡ front ++ next ∷ t → letter ≡ next
same_letter [] letter next s t e = cc
same_letter (x ∷ front) letter next s t e = let k : front ++ letter ∷ s ≡ front ++ next ∷ t = cc in same_letter front letter next s t k

no_more : (s k : List ℕ) → length (s ++ k) ≤ length s → s ++ k ≡ s
no_more s [] l = append-nil s
no_more s (x ∷ k) l = absurd (let n = length-append s (x ∷ k) in omega (arith, n, l))

one_place : (IsText : List ℕ → Type 0) (text front other : List ℕ) (letter next : ℕ) → GoesWrong IsText text front letter → GoesWrong IsText text other next → Same front other letter next
one_place IsText text front other letter next v w =
    let a = within IsText text front letter other (next ∷ w.rest) v w.text_is w.goes_on in
    let b = within IsText text other next front (letter ∷ v.rest) w v.text_is v.goes_on in
    let la = ap length a.is in
    let lb = ap length b.is in
    let na = length-append other a.k in
    let nb = length-append front b.k in
    let f : front ≡ other = a.is ∙ no_more other a.k (omega (arith, la, lb, na, nb)) in
    let g : front ++ letter ∷ v.rest ≡ front ++ next ∷ w.rest = sym v.text_is ∙ w.text_is ∙ ap (λ (z : List ℕ). z ++ next ∷ w.rest) (sym f) in
    record { fronts = f; letters = same_letter front letter next v.rest w.rest g }

wrong_not_open : (IsText : List ℕ → Type 0) (text front : List ℕ) (letter : ℕ) → GoesWrong IsText text front letter → IsBeginning IsText text → ⊥
wrong_not_open IsText text front letter w b =
    let a = within IsText text front letter text [] w (sym (append-nil text)) b in
    let l = ap length a.is in
    let n = length-append text a.k in
    let t = ap length w.text_is in
    let m = length-append front (letter ∷ w.rest) in
    omega (arith, l, n, t, m)

wrong_not_beyond : (IsText : List ℕ → Type 0) → EndsOnce IsText → (text front : List ℕ) (letter : ℕ) → GoesWrong IsText text front letter → (t more : List ℕ) → text ≡ t ++ more → IsText t → ⊥
wrong_not_beyond IsText once text front letter w t more e h =
    let a = within IsText text front letter t more w e (whole_begins IsText t h) in
    let b = w.goes_on in
    let g : front ++ b.more ≡ t ++ (a.k ++ b.more) = ap (λ (z : List ℕ). z ++ b.more) a.is ∙ append_assoc t a.k b.more in
    let n : a.k ≡ [] = none_of a.k b.more (once t (a.k ++ b.more) h (subst IsText g b.goes_on)) in
    let f : front ≡ t = a.is ∙ ap (λ (z : List ℕ). t ++ z) n ∙ append-nil t in
    w.is_short (subst IsText (sym f) h)

open_not_beyond : (IsText : List ℕ → Type 0) → EndsOnce IsText → (text : List ℕ) → IsBeginning IsText text → (t more : List ℕ) → text ≡ t ++ more → more ≢ [] → IsText t → ⊥
open_not_beyond IsText once text b t more e some h =
    let g : text ++ b.more ≡ t ++ (more ++ b.more) = ap (λ (z : List ℕ). z ++ b.more) e ∙ append_assoc t more b.more in
    some (none_of more b.more (once t (more ++ b.more) h (subst IsText g b.goes_on)))

wrong_some : (IsText : List ℕ → Type 0) (text front : List ℕ) (letter : ℕ) → GoesWrong IsText text front letter → text ≡ [] → ⊥
wrong_some IsText text front letter w e =
    let t = ap length w.text_is in
    let l = ap length e in
    let m = length-append front (letter ∷ w.rest) in
    omega (arith, t, l, m)

beyond_some : (IsText : List ℕ → Type 0) (text : List ℕ) → GoesBeyond IsText text → text ≡ [] → ⊥
beyond_some IsText text h e = by h.more h.is_some (sym e ∙ h.text_is)
  where
    by : (more : List ℕ) → more ≢ [] → [] ≡ h.front ++ more → ⊥
    by [] some f = some refl
    by (x ∷ more) some f = let l = ap length f in let n = length-append h.front (x ∷ more) in omega (arith, l, n)

float_not_bad : (IsText : List ℕ → Type 0) (text : List ℕ) (place : ℕ) → IsBadAt IsText text place → HasFloat IsText text → ⊥
float_not_bad IsText text place v w =
    let s = one_place IsText text w.front v.front w.letter v.letter w.wrong v.wrong in
    v.no_float (subst (λ (n : ℕ). IsFloat IsText v.front n) s.letters (subst (λ (z : List ℕ). IsFloat IsText z w.letter) s.fronts w.float))

abbrev bad : ℕ → DescFault
bad place = BadLetter place

-- ---- the law

pub one_fault : (IsText : List ℕ → Type 0) → EndsOnce IsText → (text : List ℕ) (f g : DescFault) → HasFault IsText text f → HasFault IsText text g → f ≡ g
one_fault IsText once text OutOfMemory g v w = absurd v
one_fault IsText once text f OutOfMemory v w = absurd w
one_fault IsText once text Empty Empty v w = refl
one_fault IsText once text Empty Open v w = absurd (w.is_some v)
one_fault IsText once text Empty Trailing v w = absurd (beyond_some IsText text w v)
one_fault IsText once text Empty (BadLetter q) v w = absurd (wrong_some IsText text w.front w.letter w.wrong v)
one_fault IsText once text Empty Float v w = absurd (wrong_some IsText text w.front w.letter w.wrong v)
one_fault IsText once text Open Empty v w = absurd (v.is_some w)
one_fault IsText once text Open Open v w = refl
one_fault IsText once text Open Trailing v w = absurd (open_not_beyond IsText once text v.goes_on w.front w.more w.text_is w.is_some w.is_whole)
one_fault IsText once text Open (BadLetter q) v w = absurd (wrong_not_open IsText text w.front w.letter w.wrong v.goes_on)
one_fault IsText once text Open Float v w = absurd (wrong_not_open IsText text w.front w.letter w.wrong v.goes_on)
one_fault IsText once text Trailing Empty v w = absurd (beyond_some IsText text v w)
one_fault IsText once text Trailing Open v w = absurd (open_not_beyond IsText once text w.goes_on v.front v.more v.text_is v.is_some v.is_whole)
one_fault IsText once text Trailing Trailing v w = refl
one_fault IsText once text Trailing (BadLetter q) v w = absurd (wrong_not_beyond IsText once text w.front w.letter w.wrong v.front v.more v.text_is v.is_whole)
one_fault IsText once text Trailing Float v w = absurd (wrong_not_beyond IsText once text w.front w.letter w.wrong v.front v.more v.text_is v.is_whole)
one_fault IsText once text (BadLetter p) Empty v w = absurd (wrong_some IsText text v.front v.letter v.wrong w)
one_fault IsText once text (BadLetter p) Open v w = absurd (wrong_not_open IsText text v.front v.letter v.wrong w.goes_on)
one_fault IsText once text (BadLetter p) Trailing v w = absurd (wrong_not_beyond IsText once text v.front v.letter v.wrong w.front w.more w.text_is w.is_whole)
one_fault IsText once text (BadLetter p) (BadLetter q) v w =
    let s = one_place IsText text v.front w.front v.letter w.letter v.wrong w.wrong in
    ap bad (v.place_is ∙ ap length s.fronts ∙ sym w.place_is)
one_fault IsText once text (BadLetter p) Float v w = absurd (float_not_bad IsText text p v w)
one_fault IsText once text Float Empty v w = absurd (wrong_some IsText text v.front v.letter v.wrong w)
one_fault IsText once text Float Open v w = absurd (wrong_not_open IsText text v.front v.letter v.wrong w.goes_on)
one_fault IsText once text Float Trailing v w = absurd (wrong_not_beyond IsText once text v.front v.letter v.wrong w.front w.more w.text_is w.is_whole)
one_fault IsText once text Float (BadLetter q) v w = absurd (float_not_bad IsText text q w v)
one_fault IsText once text Float Float v w = refl

-- a text of the set has no fault
pub no_fault : (IsText : List ℕ → Type 0) → EndsOnce IsText → (text : List ℕ) (f : DescFault) → (IsText [] → ⊥) → IsText text → HasFault IsText text f → ⊥
no_fault IsText once text Empty some h w = some (subst IsText w h)
no_fault IsText once text (BadLetter q) some h w = wrong_not_open IsText text w.front w.letter w.wrong (whole_begins IsText text h)
no_fault IsText once text Open some h w = w.is_short h
no_fault IsText once text Trailing some h w = w.is_some (once w.front w.more w.is_whole (subst IsText w.text_is h))
no_fault IsText once text Float some h w = wrong_not_open IsText text w.front w.letter w.wrong (whole_begins IsText text h)
no_fault IsText once text OutOfMemory some h w = w
