-- Tests that are put together.
use Rattle.std.proofs.Common.{◌≡◌, ℕ, ◌<◌, Bool, true, false, List, length, get_or, refl, sym, ap, subst, ◌∙◌}
use Rattle.std.specs.Prelude.{◌&&◌, map}
use Rattle.std.specs.List.{list_all}
use Rattle.std.proofs.lemmas.List.Folds.{list_all_at, list_all-map}
use Rattle.mvm_statement.specs.declared.operand.KeyRow.{KeyRow}
use Rattle.mvm_statement.specs.declared.operand.Place.{Place}
use Rattle.mvm_statement.specs.declared.instruction.Instruction.{Instruction}
use Rattle.mvm_statement.specs.declared.instruction.Instruction.TheVariants.{Lookup}
use Rattle.mvm_listing.specs.declared.piece.Piece.TheVariants.{Own}
use Rattle.mvm_listing.specs.Range.{is_i4}
use Rattle.mvm_listing.specs.Encoding.{targets_of}
use Rattle.mvm_listing.specs.Blocks.{Labels, fits_as}
use Rattle.mvm_block.specs.Ready.{offset_to}

pub parts : (a b : Bool) → (a && b) ≡ true → (a ≡ true) × (b ≡ true)
parts true b h = (refl, h)
parts false b h = absurd cc

pub and_again : (a b : Bool) → a ≡ true → b ≡ true → (a && b) ≡ true
and_again a b p q = rw (p, q) refl

-- what all pass, the one at a place does
pub passes : {A : Type 0} (p : A → Bool) (xs : List A) (i : ℕ) (x : A) → list_all p xs ≡ true → i < length xs → x ≡ get_or xs i x → p x ≡ true
passes {A} p xs i x all l e = by (p x) refl
  where
    by : (b : Bool) → p x ≡ b → b ≡ true
    by true h = refl
    by false h = absurd (let none : list_all p xs ≡ false = list_all_at p xs i x l (subst (λ (y : A). p y ≡ false) e h) in cc)

-- the targets of rows
pub row_targets : (test : Place → Bool) (rows : List KeyRow) → list_all test (map (λ (row : KeyRow). row.target) rows) ≡ list_all (λ (row : KeyRow). test row.target) rows
row_targets test rows = list_all-map test (λ (row : KeyRow). row.target) rows

-- a test of all targets of a lookupswitch, row by row
pub lookup_tests : (test : Place → Bool) (line : Instruction) (op : ℕ) (rows : List KeyRow) (otherwise : Place) (r : Bool) → line ≡ Lookup op rows otherwise → test otherwise ≡ true
    → r ≡ list_all (λ (row : KeyRow). test row.target) rows → r ≡ list_all test (targets_of (Own line))
lookup_tests test line op rows otherwise r is here rest =
    let all : list_all test (targets_of (Own line)) ≡ (test otherwise && list_all test (map (λ (row : KeyRow). row.target) rows)) = ap (λ (l : Instruction). list_all test (targets_of (Own l))) is in
    rest ∙ sym (row_targets test rows) ∙ sym (all ∙ ap (λ (b : Bool). b && list_all test (map (λ (row : KeyRow). row.target) rows)) here)

-- the rows of a lookupswitch whose targets are near enough
pub near_rows : (labels : Labels) (at : ℕ) (line : Instruction) (op : ℕ) (rows : List KeyRow) (otherwise : Place) (given : List KeyRow) → line ≡ Lookup op rows otherwise → given ≡ rows
    → list_all (λ (x : Place). fits_as (Own line) (offset_to labels at x)) (targets_of (Own line)) ≡ true → list_all (λ (row : KeyRow). is_i4 (offset_to labels at row.target)) given ≡ true
near_rows labels at line op rows otherwise given is g h =
    let k : list_all (λ (x : Place). fits_as (Own (Lookup op rows otherwise)) (offset_to labels at x)) (targets_of (Own (Lookup op rows otherwise))) ≡ true =
    subst (λ (l : Instruction). list_all (λ (x : Place). fits_as (Own l) (offset_to labels at x)) (targets_of (Own l)) ≡ true) is h in
    subst (λ (rs : List KeyRow). list_all (λ (row : KeyRow). is_i4 (offset_to labels at row.target)) rs ≡ true) (sym g)
    (sym (row_targets (λ (x : Place). is_i4 (offset_to labels at x)) rows) ∙ (parts (is_i4 (offset_to labels at otherwise)) _ k).1)
