-- Looking up a row of the table.
use Rattle.std.proofs.Common.{◌≡◌, ℕ, ◌≤◌, List, Option, None, sym, ap, ◌∙◌, arith}
use Rattle.std.specs.Prelude.{map, slice_get, option_map}
use Rattle.std.proofs.lemmas.Option.{slice_get-map, slice_get_past}
use Rattle.mvm_insn.specs.Opcodes.{all_mnemonics, mnemonic_of}

-- a column of the row at a place is what the column has there
pub column : {A B : Type 0} (f : A → B) (rows : List A) (place : ℕ) (row : Option A) → row ≡ slice_get rows place → option_map f row ≡ slice_get (map f rows) place
column f rows place row e = ap (option_map f) e ∙ sym (slice_get-map f rows place)

-- behind the last row there is no mnemonic
pub unnamed : (op : ℕ) → 202 ≤ op → mnemonic_of op ≡ None
unfolding mnemonic_of
unnamed op h = slice_get_past all_mnemonics op (omega arith)
