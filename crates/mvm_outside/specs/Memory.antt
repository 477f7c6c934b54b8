-- What the objects over memory are to a clause.
use Rattle.std.specs.Prelude.{ℕ, Bool, List, nat_eq}
use Rattle.std.specs.List.{list_any}
use Rattle.mvm_outside.specs.declared.file_row.FileRow.{FileRow}

-- a source: what is left, the numbers of the calls that fail, and how many calls and faults there were
pub record SourceState : Type 0 where
  pub left : List ℕ
  pub failing : List ℕ
  pub calls : ℕ
  pub faults : ℕ

-- a store: its rows, the numbers of the calls that fail, and how many calls and faults there were
pub record StoreState : Type 0 where
  pub rows : List FileRow
  pub failing : List ℕ
  pub calls : ℕ
  pub faults : ℕ

-- a sink: what it took, how much it takes at most in a call, the numbers of the calls that fail, and how many
-- calls, faults and idle writes there were
pub record SinkState : Type 0 where
  pub taken : List ℕ
  pub most : ℕ
  pub failing : List ℕ
  pub calls : ℕ
  pub faults : ℕ
  pub idle : ℕ

-- whether the call of this number is to fail
abbrev pub is_failing : List ℕ → ℕ → Bool
is_failing failing call = list_any (λ number. nat_eq number call) failing
