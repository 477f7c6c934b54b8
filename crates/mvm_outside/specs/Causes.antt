-- What a call of an object outside did to its counts and its bytes.
use Rattle.std.specs.Prelude.{◌≡◌, ℕ, ◌+◌, ◌-◌, ◌^◌, ◌<◌, ◌≤◌, ◌==◌, ◌&&◌, min, nat_lt, length, Bool, false, true, List, Option, Result, Ok, Err, OnErr, if◌then◌else◌}
use Rattle.std.specs.Io.KnownBytes.{Consumes}
use Rattle.mvm_outside.specs.declared.traits.StoreFault.{StoreFault}
use Rattle.mvm_outside.specs.declared.traits.StoreFault.TheVariants.{Failed, TooLong, OutOfMemory}

-- a count rose, or stands at the last value of a u64
abbrev pub Rose : ℕ → ℕ → Type 0
Rose before now = min (before + 1) (2 ^ 64 - 1) ≤ now

-- the count never falls, and rose where the call answered an error
pub record HasCause {T E : Type 0} (before now : ℕ) (result : Result T E) : Type 0 where
  pub later : before ≤ now
  pub failed : OnErr result (Rose before now)

-- the count never falls, rose where a write took nothing of a piece that is not empty, and stands where the piece is empty
pub record CountsIdle {E : Type 0} (before now : ℕ) (result : Result ℕ E) (piece : List ℕ) : Type 0 where
  pub later : before ≤ now
  pub idle : result ≡ Ok 0 → 0 < length piece → Rose before now
  pub empty : length piece ≡ 0 → now ≡ before

-- a source lost some bytes from its front, so many at most
abbrev pub LosesAtMost : Option (List ℕ) → Option (List ℕ) → ℕ → Type 0
LosesAtMost before now most = (bytes : List ℕ) × Consumes before now bytes × (length bytes ≤ most)

-- one more, as a u64 counts: at its last value a count stands
abbrev pub next_count : ℕ → ℕ
next_count count = min (count + 1) (2 ^ 64 - 1)

-- the count of a thing after a call, of which it is known whether the thing happened in it
abbrev pub counted_if : Bool → ℕ → ℕ
counted_if happened before = if happened then next_count before else before

-- whether a write took nothing of a piece that is not empty, and did not fail
abbrev pub is_idle : {E : Type 0} → Result ℕ E → List ℕ → Bool
is_idle (Err _) piece = false
is_idle (Ok count) piece = count == 0 && nat_lt 0 (length piece)

-- whether a store failed, which neither a file that is too long nor want of memory is
abbrev pub is_failure : {T : Type 0} → Result T StoreFault → Bool
is_failure (Ok _) = false
is_failure (Err Failed) = true
is_failure (Err TooLong) = false
is_failure (Err OutOfMemory) = false
