-- A table beside the constant pool.
use Rattle.std.proofs.Common.{◌≡◌, ℕ, zero, suc, ◌-◌, ◌≤◌, List, Option, Some, None, refl, ap, ◌∙◌, arith}
use Rattle.std.specs.Prelude.{map, slice_get}
use Rattle.std.specs.Option.{option_map, option_and_then, option_flatten}
use Rattle.std.proofs.lemmas.Option.{slice_get-map}
use Rattle.mvm_layout.specs.declared.parts.Item.{Item}
use Rattle.mvm_check.specs.Operands.{slots_of_item, parameter_slots}

joined : (f : Item → Option ℕ) (item : Option Item) → option_flatten (option_map f item) ≡ option_and_then f item
joined f None = refl
joined f (Some item) = refl

at_place : (pool : List Item) (n : ℕ) → option_flatten (slice_get (map slots_of_item pool) n) ≡ option_and_then slots_of_item (slice_get pool n)
at_place pool n = ap option_flatten (slice_get-map slots_of_item pool n) ∙ joined slots_of_item (slice_get pool n)

-- what the table has beside the entry of an index
pub slots-beside : (pool : List Item) (desc : ℕ) → 1 ≤ desc → option_flatten (slice_get (map slots_of_item pool) (desc - 1)) ≡ parameter_slots pool desc
unfolding parameter_slots
slots-beside pool zero h = absurd (omega arith)
slots-beside pool (suc n) h =
    let back : suc n - 1 ≡ n = omega arith in
    rw back (at_place pool n)
