-- Sets of numbers, and places by their labels.
use Rattle.std.proofs.Common.{◌≡◌, Bool, true, false, cond, ◌∷◌, refl, ◌∙◌, arith}
use Rattle.std.specs.Prelude.{◌||◌, ℤ, pos, negsuc, ◌≤ℤ◌, ◌<ℤ◌}
use Rattle.std.specs.BTreeSet as sorted
use Rattle.std.specs.BTreeSet.{BTreeSet}
use Rattle.std.specs.Ordering.{int_cmp, int_eq}
use Rattle.std.specs.Fmt.{signed_decimal}
use Rattle.std.proofs.lemmas.Int.{ints}
use Rattle.mvm_statement.specs.declared.operand.Place.TheVariants.{At, Label}
use Rattle.mvm_listing.specs.Disassembly.{shown_at}
use Rattle.mvm_disassembler.specs.Steps.{holds}

pub added : (old new : BTreeSet ℤ) (number : ℤ) → sorted.Updates int_cmp old new number true → (n : ℤ) → holds new n ≡ (holds old n || int_eq number n)
added old new number u n = u.0 n ∙ by (int_eq number n) (holds old n)
  where
    by : (a b : Bool) → cond a true b ≡ (b || a)
    by true true = refl
    by true false = refl
    by false true = refl
    by false false = refl

pub shown_label : (n : ℤ) → pos 0 ≤ℤ n → shown_at true n ≡ Label (76 ∷ signed_decimal n)
shown_label (pos n) h = refl
shown_label (negsuc n) h = absurd (omega (arith, ints))

pub shown_number : (n : ℤ) → shown_at false n ≡ At n
shown_number (pos n) = refl
shown_number (negsuc n) = refl

pub shown_negative : (b : Bool) (n : ℤ) → n <ℤ pos 0 → shown_at b n ≡ At n
shown_negative true (pos n) h = absurd (omega (arith, ints))
shown_negative false (pos n) h = absurd (omega (arith, ints))
shown_negative true (negsuc n) h = refl
shown_negative false (negsuc n) h = refl
