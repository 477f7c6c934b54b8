use Rattle.std.specs.Prelude.{ℕ, List}
use Rattle.mvm_frame.specs.declared.rows.Row.{Row}

-- how many rows there may be, and those that there are, the last first
pub record RowsParts : Type 0 where
  pub most : ℕ
  pub rows : List Row
