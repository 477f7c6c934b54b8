-- The table of what is known of the texts of the constant pool, read by index.
use Rattle.std.proofs.Common.{◌≡◌, ℕ, zero, suc, ◌-◌, ◌<◌, List, Option, Some, None, Result, Ok, Err, true, if◌then◌else◌, refl, arith}
use Rattle.std.specs.Prelude.{slice_get}
use Rattle.std.specs.Option.{option_map}
use Rattle.std.proofs.lemmas.Option.{slice_get-map}
use Rattle.mvm_layout.specs.declared.parts.Item.{Item}
use Rattle.mvm_layout.specs.declared.parts.Item.TheVariants.{Utf8}
use Rattle.mvm_base.specs.Descriptor.{field_of, method_of, slots}
use Rattle.mvm_base.specs.declared.descriptor.FieldShape.{FieldShape}
use Rattle.mvm_base.specs.declared.descriptor.MethodShape.{MethodShape}
use Rattle.mvm_base.specs.declared.descriptor.DescFault.{DescFault}
use Rattle.mvm_base.specs.declared.descriptor.DescFault.TheVariants as desc_fault
use Rattle.mvm_layout.specs.Flags.{is_static}
use Rattle.mvm_shape.specs.Members.{is_unqualified, is_method_name, holds, parsed, field_descriptor, method_descriptor, has_few_parameters}
use Rattle.mvm_layout.specs.Pool.{text, text_of}
use Rattle.mvm_shape.specs.TextFacts.{facts_of, facts_of_item, all_facts, flattened, as_field, as_method, read_as, tested_as, is_known_field, is_known_method, known_field, known_method}
use Rattle.mvm_shape.specs.declared.text_facts.TextFacts.{TextFacts}

of_entry : (item : Option Item) → flattened (option_map facts_of_item item) ≡ option_map facts_of (text_of item)
of_entry None = refl
of_entry (Some (Utf8 name)) = refl
of_entry (Some item) = refl

found : (pool : List Item) (n : ℕ) → flattened (slice_get (all_facts pool) n) ≡ option_map facts_of (text_of (slice_get pool n))
found pool n = rw (slice_get-map facts_of_item pool n) (of_entry (slice_get pool n))

pub facts_from : (pool : List Item) (rows : List (Option TextFacts)) (index : ℕ) → rows ≡ all_facts pool → 0 < index
    → flattened (slice_get rows (index - 1)) ≡ option_map facts_of (text pool index)
facts_from pool rows zero same some = absurd (omega arith)
facts_from pool rows (suc n) same some = let e : suc n - 1 ≡ n = omega arith in rw (e, same) (found pool n)

pub field_name : (found : Option (List ℕ)) → is_known_field (option_map facts_of found) ≡ holds is_unqualified found
field_name None = refl
field_name (Some name) = refl

pub method_name : (found : Option (List ℕ)) → is_known_method (option_map facts_of found) ≡ holds is_method_name found
method_name None = refl
method_name (Some name) = refl

field_read : (at : ℕ) (read : Result FieldShape DescFault) → tested_as at 0 (read_as (λ (field : FieldShape). 0) read) ≡ parsed at (λ field. true) read
field_read at (Ok field) = refl
field_read at (Err desc_fault.Float) = refl
field_read at (Err fault) = refl

pub field_tested : (at : ℕ) (found : Option (List ℕ)) → tested_as at 0 (known_field (option_map facts_of found)) ≡ field_descriptor at found
unfolding as_field
field_tested at None = refl
field_tested at (Some name) = field_read at (field_of name)

method_read : (at flags : ℕ) (read : Result MethodShape DescFault)
    → tested_as at (if is_static flags then 0 else 1) (read_as (λ (method : MethodShape). slots method.params) read) ≡ parsed at (has_few_parameters flags) read
method_read at flags (Ok method) = refl
method_read at flags (Err desc_fault.Float) = refl
method_read at flags (Err fault) = refl

pub method_tested : (at flags : ℕ) (found : Option (List ℕ))
    → tested_as at (if is_static flags then 0 else 1) (known_method (option_map facts_of found)) ≡ method_descriptor at flags found
unfolding as_method
method_tested at flags None = refl
method_tested at flags (Some name) = method_read at flags (method_of name)
