-- The throwables of the machine's own in the order of their table.
use Rattle.std.proofs.Common.{◌≡◌, ℕ, zero, suc, ◌+◌, ◌<◌, List, [], ◌∷◌, ◌++◌, length, refl, sym, ap, subst, ◌∙◌, arith, inl, inr}
use Rattle.std.specs.Prelude.{slice_index, slice_index_or}
use Rattle.std.proofs.lemmas.List.{get_or_append_left, get_or_push, length_push}
use Rattle.std.proofs.lemmas.Bool.{cases_lt}
use Rattle.mvm_mirror.specs.Kept.{classes_of}
use Rattle.mvm_mirror.specs.Seen.{number_of, IsNumbered}
use Rattle.mvm_native.specs.declared.out.Thrown.{Thrown}
use Rattle.mvm_native.specs.declared.out.Thrown.TheVariants as thrown
use Rattle.mvm_set.specs.declared.class.Lineage.{Lineage}
use Rattle.mvm_isolate.specs.Sound.{AreThrownIn, NumbersStay}
use Rattle.mvm_isolate.specs.Thrown.{name_of_thrown, place_of_thrown}
use Rattle.mvm_isolate.specs.declared.known.TheConstants.{ALL_THROWN}

-- each stands at its place
pub thrown_at : (t d : Thrown) → slice_index_or ALL_THROWN (place_of_thrown t) d ≡ t
unfolding place_of_thrown
thrown_at thrown.ArithmeticException d = refl
thrown_at thrown.ArrayStoreException d = refl
thrown_at thrown.ClassCastException d = refl
thrown_at thrown.IllegalArgumentException d = refl
thrown_at thrown.NumberFormatException d = refl
thrown_at thrown.IllegalThreadStateException d = refl
thrown_at thrown.IllegalMonitorStateException d = refl
thrown_at thrown.IllegalStateException d = refl
thrown_at thrown.ArrayIndexOutOfBoundsException d = refl
thrown_at thrown.StringIndexOutOfBoundsException d = refl
thrown_at thrown.NegativeArraySizeException d = refl
thrown_at thrown.NullPointerException d = refl
thrown_at thrown.ClosedLinkException d = refl
thrown_at thrown.ClassCircularityError d = refl
thrown_at thrown.ClassFormatError d = refl
thrown_at thrown.UnsupportedClassVersionError d = refl
thrown_at thrown.ExceptionInInitializerError d = refl
thrown_at thrown.IncompatibleClassChangeError d = refl
thrown_at thrown.AbstractMethodError d = refl
thrown_at thrown.IllegalAccessError d = refl
thrown_at thrown.InstantiationError d = refl
thrown_at thrown.NoSuchFieldError d = refl
thrown_at thrown.NoSuchMethodError d = refl
thrown_at thrown.NoClassDefFoundError d = refl
thrown_at thrown.UnsatisfiedLinkError d = refl
thrown_at thrown.VerifyError d = refl
thrown_at thrown.OutOfMemoryError d = refl
thrown_at thrown.StackOverflowError d = refl

pub thrown_below : (t : Thrown) → place_of_thrown t < length ALL_THROWN
unfolding place_of_thrown
thrown_below thrown.ArithmeticException = omega arith
thrown_below thrown.ArrayStoreException = omega arith
thrown_below thrown.ClassCastException = omega arith
thrown_below thrown.IllegalArgumentException = omega arith
thrown_below thrown.NumberFormatException = omega arith
thrown_below thrown.IllegalThreadStateException = omega arith
thrown_below thrown.IllegalMonitorStateException = omega arith
thrown_below thrown.IllegalStateException = omega arith
thrown_below thrown.ArrayIndexOutOfBoundsException = omega arith
thrown_below thrown.StringIndexOutOfBoundsException = omega arith
thrown_below thrown.NegativeArraySizeException = omega arith
thrown_below thrown.NullPointerException = omega arith
thrown_below thrown.ClosedLinkException = omega arith
thrown_below thrown.ClassCircularityError = omega arith
thrown_below thrown.ClassFormatError = omega arith
thrown_below thrown.UnsupportedClassVersionError = omega arith
thrown_below thrown.ExceptionInInitializerError = omega arith
thrown_below thrown.IncompatibleClassChangeError = omega arith
thrown_below thrown.AbstractMethodError = omega arith
thrown_below thrown.IllegalAccessError = omega arith
thrown_below thrown.InstantiationError = omega arith
thrown_below thrown.NoSuchFieldError = omega arith
thrown_below thrown.NoSuchMethodError = omega arith
thrown_below thrown.NoClassDefFoundError = omega arith
thrown_below thrown.UnsatisfiedLinkError = omega arith
thrown_below thrown.VerifyError = omega arith
thrown_below thrown.OutOfMemoryError = omega arith
thrown_below thrown.StackOverflowError = omega arith

-- ---- the numbers of their classes, as far as they were loaded

pub record AreThrownBelow (classes : List Lineage) (numbers : List ℕ) (count : ℕ) : Type 0 where
  pub counted : length numbers ≡ count
  pub named : (t : Thrown) → place_of_thrown t < count → IsNumbered classes (slice_index numbers (place_of_thrown t)) (name_of_thrown t)

pub thrown_none : (classes : List Lineage) → AreThrownBelow classes [] 0
thrown_none classes = record { counted = refl; named = λ t h. absurd (omega (arith, h)) }

pub thrown_more : (old new : List Lineage) (numbers : List ℕ) (count number : ℕ) (item d : Thrown) → AreThrownBelow old numbers count → NumbersStay old new
    → item ≡ slice_index_or ALL_THROWN count d → IsNumbered new number (name_of_thrown item) → AreThrownBelow new (numbers ++ number ∷ []) (count + 1)
thrown_more old new numbers count number item d a s is n = record { counted = length_push numbers number ∙ ap (λ (k : ℕ). k + 1) a.counted; named = each }
  where
    each : (t : Thrown) → place_of_thrown t < count + 1 → IsNumbered new (slice_index (numbers ++ number ∷ []) (place_of_thrown t)) (name_of_thrown t)
    each t h = elim (cases_lt (place_of_thrown t) count) [
      | inl below ↦
          subst (λ (k : ℕ). IsNumbered new k (name_of_thrown t)) (sym (get_or_append_left numbers (number ∷ []) 0 (place_of_thrown t) (omega (arith, below, a.counted)))) (s _ _ (a.named t below))
      | inr above ↦
          let at : place_of_thrown t ≡ count = omega (arith, above, h) in
          let same : item ≡ t = is ∙ ap (λ (k : ℕ). slice_index_or ALL_THROWN k d) (sym at) ∙ thrown_at t d in
          subst (λ (k : ℕ). IsNumbered new k (name_of_thrown t)) (sym (get_or_push numbers number 0 (place_of_thrown t) (a.counted ∙ sym at)))
          (subst (λ (u : Thrown). IsNumbered new number (name_of_thrown u)) same n)
    ]

pub thrown_all : (classes : List Lineage) (numbers : List ℕ) → AreThrownBelow classes numbers (length ALL_THROWN) → AreThrownIn classes numbers
thrown_all classes numbers a = record { there = λ t. subst (λ (k : ℕ). place_of_thrown t < k) (sym a.counted) (thrown_below t); named = λ t. a.named t (thrown_below t) }
