-- Formats: how a value is read, and which bytes spell it. Each reads front to back, and tells the first fault; what spells a
-- value is said by whole lists. That the two agree is proved once for each way of putting formats together.
use Rattle.std.specs.Prelude.{◌≡◌, ℕ, zero, suc, ◌+◌, List, [], ◌∷◌, ◌++◌, length, Bool, true, false, Option, Some, None, Result, Ok, Err}
use Rattle.mvm_base.specs.Endian.{big_number}
use Rattle.mvm_base.specs.Answers.{◌>>=◌}
use Rattle.mvm_base.specs.Place.{Place, run, big}
use Rattle.mvm_layout.specs.declared.fault.ClassFault.{ClassFault}
use Rattle.mvm_layout.specs.declared.fault.ClassFault.TheVariants.{Truncated}

pub record Format (A : Type 0) : Type 1 where
  -- the value at a place, with the place behind it
  pub read : Place → Result (A × Place) ClassFault
  -- these bytes, all of them, spell this value where they begin at this place of the file
  pub spells : A → ℕ → List ℕ → Type 0

abbrev pub whole : {A : Type 0} → Result (A × Place) ℕ → Result (A × Place) ClassFault
whole (Ok x) = Ok x
whole (Err at) = Err (Truncated at)

-- so many bytes
abbrev pub bytes : ℕ → Format (List ℕ)
bytes n = record { read = λ p. whole (run n p); spells = λ x at text. (text ≡ x) × (length x ≡ n) }

-- a number of so many bytes, the high byte first
abbrev pub number : ℕ → Format ℕ
number n = record { read = λ p. whole (big n p); spells = λ x at text. (length text ≡ n) × (big_number n text ≡ x) }

-- no bytes, which stand for this value
abbrev pub given : {A : Type 0} → A → Format A
given x = record { read = λ p. Ok (x, p); spells = λ y at text. (y ≡ x) × (text ≡ []) }

-- one value, and then another
abbrev pub followed : {A B : Type 0} → Format A → (A → Format B) → Format (A × B)
followed F G = record {
  read = λ p. F.read p >>= λ x. (G x.0).read x.1 >>= λ y. Ok ((x.0, y.0), y.1);
  spells = λ x at text. (s t : List ℕ) × F.spells x.0 at s × (G x.0).spells x.1 (at + length s) t × (text ≡ s ++ t);
}

-- a value, with the place where it begins
abbrev pub standing : {A : Type 0} → Format A → Format (ℕ × A)
standing F = record {
  read = λ p. F.read p >>= λ x. Ok ((p.at, x.0), x.1);
  spells = λ x at text. (x.0 ≡ at) × F.spells x.1 at text;
}

-- what a value stands for
abbrev pub mapped : {A B : Type 0} → (A → B) → Format A → Format B
mapped f F = record {
  read = λ p. F.read p >>= λ x. Ok (f x.0, x.1);
  spells = λ y at text. (x : _) × F.spells x at text × (f x ≡ y);
}

-- one format or another
abbrev pub choose : {A : Type 0} → Bool → Format A → Format A → Format A
choose true F G = F
choose false F G = G

-- no such value
abbrev pub refused : {A : Type 0} → ClassFault → Format A
refused fault = record { read = λ p. Err fault; spells = λ x at text. ⊥ }

abbrev pub kept : {A : Type 0} → Option A → ClassFault → Result A ClassFault
kept (Some x) fault = Ok x
kept None fault = Err fault

-- what a value stands for, where it stands for anything; else the fault
abbrev pub converted : {A B : Type 0} → (A → Option B) → (A → ClassFault) → Format A → Format B
converted f fault F = record {
  read = λ p. F.read p >>= λ x. kept (f x.0) (fault x.0) >>= λ y. Ok (y, x.1);
  spells = λ y at text. (x : _) × F.spells x at text × (f x ≡ Some y);
}

abbrev pub if_passing : {A : Type 0} → Bool → A → Option A
if_passing true x = Some x
if_passing false x = None

-- the values that pass a test; for the others the fault
abbrev pub passing : {A : Type 0} → (A → Bool) → (A → ClassFault) → Format A → Format A
passing test fault F = converted (λ x. if_passing (test x) x) fault F

-- the same, where the fault tells the place at which the value begins
abbrev pub passing_at : {A : Type 0} → (A → Bool) → (ℕ → ClassFault) → Format A → Format A
passing_at test fault F = record {
  read = λ p. (passing test (λ x. fault p.at) F).read p;
  spells = λ y at text. (x : _) × F.spells x at text × (if_passing (test x) x ≡ Some y);
}

-- so many values, one after the other
abbrev pub read_times : {A : Type 0} → Format A → ℕ → Place → Result (List A × Place) ClassFault
read_times F zero p = Ok ([], p)
read_times F (suc n) p = F.read p >>= λ x. read_times F n x.1 >>= λ xs. Ok (x.0 ∷ xs.0, xs.1)

abbrev pub spells_times : {A : Type 0} → Format A → ℕ → List A → ℕ → List ℕ → Type 0
spells_times F zero xs at text = (xs ≡ []) × (text ≡ [])
spells_times F (suc n) [] at text = ⊥
spells_times F (suc n) (x ∷ xs) at text = (s t : List ℕ) × F.spells x at s × spells_times F n xs (at + length s) t × (text ≡ s ++ t)

abbrev pub times : {A : Type 0} → ℕ → Format A → Format (List A)
times n F = record { read = read_times F n; spells = spells_times F n }

-- a number of two bytes, and so many values
abbrev pub counted : {A : Type 0} → Format A → Format (List A)
counted F = mapped (λ x. x.1) (followed (number 2) (λ count. times count F))
