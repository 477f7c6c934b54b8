-- One step of a loop over a list, as the definitions make it.
use Rattle.std.proofs.Common.{◌≡◌, ◌<◌, ◌≤◌, ℕ, suc, ◌+◌, ◌-◌, false, ◌&&◌, ◌==◌, List, ◌∷◌, length, get_or, drop, Some, refl, ap, ◌∙◌, add-one, drop-cons, arith}
use Rattle.std.specs.Prelude.{slice_get}
use Rattle.std.specs.List.{list_all}
use Rattle.std.proofs.lemmas.Bool.{lt-ltb}
use Rattle.std.proofs.lemmas.List.{drop_all}
use Rattle.std.proofs.lemmas.Option.{slice_get_within, get_or_from_slice_get}
use Rattle.mvm_insn.specs.Insns.{insn}
use Rattle.mvm_insn.specs.declared.switch_rows.SwitchRow.{SwitchRow}
use Rattle.mvm_check.specs.Starts.{behind, starts_from, begins}
use Rattle.mvm_check.specs.Operands.{has_dimensions}
use Rattle.mvm_check.specs.declared.letters.TheConstants as unit
use Rattle.mvm_check.specs.Instructions.{targets_of_rows}

drop_found : {A : Type 0} (xs : List A) (i : ℕ) (x : A) → slice_get xs i ≡ Some x → drop i xs ≡ x ∷ drop (i + 1) xs
drop_found xs i x h = rw add-one (drop-cons xs i x (slice_get_within xs i x h) ∙ ap (λ y. y ∷ drop (suc i) xs) (get_or_from_slice_get xs i x x h))

-- a row of a switch
pub rows-step : (starts : List ℕ) (rows : List SwitchRow) (i : ℕ) (row : SwitchRow) → slice_get rows i ≡ Some row → list_all (begins starts) (targets_of_rows (drop i rows)) ≡ (begins starts row.target && list_all (begins starts) (targets_of_rows (drop (i + 1) rows)))
rows-step starts rows i row h = ap (λ (xs : List SwitchRow). list_all (begins starts) (targets_of_rows xs)) (drop_found rows i row h)

-- a letter of a name
pub dimensions-step : (n i : ℕ) (name : List ℕ) → i < n → i < length name → has_dimensions (n - i) (drop i name) ≡ ((get_or name i 0 == unit.LEFT_BRACKET) && has_dimensions (n - (i + 1)) (drop (i + 1) name))
dimensions-step n i name h k =
    let next : n - i ≡ suc (n - (i + 1)) = omega arith in
    rw (next, drop-cons name i 0 k, add-one) refl

pub dimensions-end : (n i : ℕ) (name : List ℕ) → i < n → length name ≤ i → has_dimensions (n - i) (drop i name) ≡ false
dimensions-end n i name h k =
    let next : n - i ≡ suc (n - (i + 1)) = omega arith in
    rw (next, drop_all i name k) refl

-- a start
pub starts-step : (most i pc : ℕ) (code : List ℕ) → i < most → pc < length code → starts_from (most - i) code pc ≡ pc ∷ starts_from (most - (i + 1)) code (behind (length code) (insn code pc))
starts-step most i pc code h k =
    let next : most - i ≡ suc (most - (i + 1)) = omega arith in
    rw (next, lt-ltb pc (length code) k) refl
