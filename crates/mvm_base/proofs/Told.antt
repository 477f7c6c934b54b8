-- What a reader's fault tells of the texts that it reads: from parts to wholes.
use Rattle.std.proofs.Common.{◌≡◌, ◌≢◌, ℕ, ◌+◌, true, false, ◌||◌, eqb, List, [], ◌∷◌, ◌++◌, length, refl, sym, ap, subst, ◌∙◌, append_assoc, append-nil, length-append, arith}
use Rattle.mvm_base.specs.Descriptor.{is_next}
use Rattle.mvm_base.specs.DescriptorFaults.{IsBeginning, GoesWrong, HasFault}
use Rattle.mvm_base.specs.declared.descriptor.DescFault.{DescFault}
use Rattle.mvm_base.specs.declared.descriptor.DescFault.TheVariants.{BadLetter, Open, Float}

abbrev bad : ℕ → DescFault
bad place = BadLetter place

-- why a letter can't be read
pub data Why (IsText : List ℕ → Type 0) (front : List ℕ) (letter place : ℕ) (fault : DescFault) : Type 0 where
  Misplaced : fault ≡ BadLetter place → (eqb letter 70 || eqb letter 68) ≡ false → Why IsText front letter place fault
  Floating : fault ≡ Float → (eqb letter 70 || eqb letter 68) ≡ true → IsBeginning IsText (front ++ 73 ∷ []) → Why IsText front letter place fault

-- the letter at which the reader stops, whatever follows it
pub record LetterTold (IsText Refuses : List ℕ → Type 0) (at : ℕ) (text : List ℕ) (fault : DescFault) : Type 0 where
  pub front : List ℕ
  pub letter : ℕ
  pub rest : List ℕ
  pub text_is : text ≡ front ++ letter ∷ rest
  pub goes_on : IsBeginning IsText front
  pub stays : (more : List ℕ) → Refuses (front ++ letter ∷ more)
  pub why : Why IsText front letter (at + length front) fault

pub data Told (IsText Refuses : List ℕ → Type 0) (at : ℕ) (text : List ℕ) (fault : DescFault) : Type 0 where
  AtLetter : LetterTold IsText Refuses at text fault → Told IsText Refuses at text fault
  AtEnd : fault ≡ Open → IsBeginning IsText text → Told IsText Refuses at text fault

-- the first letter is at fault
pub first_letter : (IsText Refuses : List ℕ → Type 0) (at letter : ℕ) (text : List ℕ) (fault : DescFault) → IsBeginning IsText [] → ((more : List ℕ) → Refuses (letter ∷ more)) → Why IsText [] letter at fault → Told IsText Refuses at (letter ∷ text) fault
first_letter IsText Refuses at letter text fault b stays why =
    let z : at ≡ at + 0 = omega arith in
    AtLetter (record { front = []; letter = letter; rest = text; text_is = refl; goes_on = b; stays = stays; why = subst (λ (place : ℕ). Why IsText [] letter place fault) z why })

-- ---- from parts to wholes

pub same_head : (k : ℕ) (front : List ℕ) (letter : ℕ) (more rest : List ℕ) → is_next k (front ++ letter ∷ more) ≡ is_next k (front ++ letter ∷ rest)
same_head k [] letter more rest = refl
same_head k (x ∷ front) letter more rest = refl

pub wide : (IsPart IsText : List ℕ → Type 0) (p t : List ℕ) → ((t : List ℕ) → IsPart t → IsBeginning IsText (p ++ t)) → IsBeginning IsPart t → IsBeginning IsText (p ++ t)
wide IsPart IsText p t wider b =
    let w = wider (t ++ b.more) b.goes_on in
    let e : (p ++ (t ++ b.more)) ++ w.more ≡ (p ++ t) ++ (b.more ++ w.more) = append_assoc p (t ++ b.more) w.more ∙ ap (λ (z : List ℕ). p ++ z) (append_assoc t b.more w.more) ∙ sym (append_assoc p t (b.more ++ w.more)) in
    record { more = b.more ++ w.more; goes_on = subst IsText e w.goes_on }

-- What is told of a part behind these letters is told of the whole, where the whole's reader refuses what the part's does.
pub lifted : (IsPart IsText Refuses All_refuse : List ℕ → Type 0) (p text : List ℕ) (at start : ℕ) (fault : DescFault) → at ≡ start + length p → ((t : List ℕ) → IsPart t → IsBeginning IsText (p ++ t)) → ((t : List ℕ) → ((k : ℕ) → is_next k t ≡ is_next k text) → Refuses t → All_refuse (p ++ t)) → Told IsPart Refuses at text fault → Told IsText All_refuse start (p ++ text) fault
lifted IsPart IsText Refuses All_refuse p text at start fault e wider refuse (AtEnd f b) = AtEnd f (wide IsPart IsText p text wider b)
lifted IsPart IsText Refuses All_refuse p text at start fault e wider refuse (AtLetter h) = AtLetter (record {
  front = p ++ h.front;
  letter = h.letter;
  rest = h.rest;
  text_is = ap (λ (t : List ℕ). p ++ t) h.text_is ∙ sym (append_assoc p h.front (h.letter ∷ h.rest));
  goes_on = wide IsPart IsText p h.front wider h.goes_on;
  stays = λ more. subst All_refuse (sym (append_assoc p h.front (h.letter ∷ more))) (refuse (h.front ++ h.letter ∷ more) (λ k. same_head k h.front h.letter more h.rest ∙ ap (λ (t : List ℕ). is_next k t) (sym h.text_is)) (h.stays more));
  why = because h.why;
})
  where
    place : at + length h.front ≡ start + length (p ++ h.front)
    place = let l = length-append p h.front in omega (arith, e, l)

    because : Why IsPart h.front h.letter (at + length h.front) fault → Why IsText (p ++ h.front) h.letter (start + length (p ++ h.front)) fault
    because (Misplaced f n) = Misplaced (f ∙ ap bad place) n
    because (Floating f n b) = Floating f n (subst (IsBeginning IsText) (sym (append_assoc p h.front (73 ∷ []))) (wide IsPart IsText p (h.front ++ 73 ∷ []) wider b))

-- ---- the fault

-- what a reader that reads each whole text, with anything behind it, tells by its fault
pub told_fault : (IsText Refuses : List ℕ → Type 0) (text : List ℕ) (fault : DescFault) → text ≢ [] → Refuses text → ((t more : List ℕ) → IsText t → Refuses (t ++ more) → ⊥) → Told IsText Refuses 0 text fault → HasFault IsText text fault
told_fault IsText Refuses text fault some refused reads (AtEnd f b) =
    subst (λ (g : DescFault). HasFault IsText text g) (sym f) (record { is_some = some; is_short = λ w. reads text [] w (subst Refuses (sym (append-nil text)) refused); goes_on = b })
told_fault IsText Refuses text fault some refused reads (AtLetter h) = by h.why
  where
    wrong : GoesWrong IsText text h.front h.letter
    wrong = record {
      rest = h.rest;
      text_is = h.text_is;
      goes_on = h.goes_on;
      is_short = λ w. reads h.front (h.letter ∷ h.rest) w (h.stays h.rest);
      stops = λ b. reads ((h.front ++ h.letter ∷ []) ++ b.more) [] b.goes_on (subst Refuses (sym (append-nil ((h.front ++ h.letter ∷ []) ++ b.more) ∙ append_assoc h.front (h.letter ∷ []) b.more)) (h.stays b.more));
    }

    by : Why IsText h.front h.letter (0 + length h.front) fault → HasFault IsText text fault
    by (Misplaced f n) = subst (λ (g : DescFault). HasFault IsText text g) (sym f) (record { front = h.front; letter = h.letter; place_is = omega arith; wrong = wrong; no_float = λ w. (let t = w.letter_is in absurd cc) })
    by (Floating f n b) = subst (λ (g : DescFault). HasFault IsText text g) (sym f) (record { front = h.front; letter = h.letter; wrong = wrong; float = record { letter_is = n; type_stands = b } })
