-- What members ask of the texts of the constant pool, told once for each text.
use Rattle.std.specs.Prelude.{ℕ, ◌+◌, nat_le, Bool, false, List, map, Option, Some, None, Result, Ok, Err}
use Rattle.mvm_base.specs.Descriptor.{field_of, method_of, slots}
use Rattle.mvm_base.specs.declared.descriptor.FieldShape.{FieldShape}
use Rattle.mvm_base.specs.declared.descriptor.MethodShape.{MethodShape}
use Rattle.mvm_base.specs.declared.descriptor.DescFault.{DescFault}
use Rattle.mvm_base.specs.declared.descriptor.DescFault.TheVariants as desc_fault
use Rattle.mvm_layout.specs.declared.parts.Item.{Item}
use Rattle.mvm_layout.specs.declared.parts.Item.TheVariants.{Utf8}
use Rattle.mvm_layout.specs.declared.fault.ClassFault.{ClassFault}
use Rattle.mvm_layout.specs.declared.fault.ClassFault.TheVariants.{Shape, Unsupported}
use Rattle.mvm_base.specs.Rules.{expect}
use Rattle.mvm_shape.specs.Members.{is_unqualified, is_method_name}
use Rattle.mvm_shape.specs.declared.text_facts.Descriptor.{Descriptor}
use Rattle.mvm_shape.specs.declared.text_facts.Descriptor.TheVariants.{Whole, Float, Broken}
use Rattle.mvm_shape.specs.declared.text_facts.TextFacts.{TextFacts}

-- how a text was read as a descriptor, with the slots of what it spells
abbrev pub read_as : {A : Type 0} → (A → ℕ) → Result A DescFault → Descriptor
read_as slots (Ok shape) = Whole (slots shape)
read_as slots (Err desc_fault.Float) = Float
read_as slots (Err fault) = Broken

-- a field's type, of which the slots are of no account
unfoldable pub as_field : List ℕ → Descriptor
as_field text = read_as (λ (field : FieldShape). 0) (field_of text)

unfoldable pub as_method : List ℕ → Descriptor
as_method text = read_as (λ (method : MethodShape). slots method.params) (method_of text)

abbrev pub facts_of : List ℕ → TextFacts
facts_of text = record {
  is_field_name = is_unqualified text;
  is_method_name = is_method_name text;
  field = as_field text;
  method = as_method text;
}

abbrev pub facts_of_item : Item → Option TextFacts
facts_of_item (Utf8 text) = Some (facts_of text)
facts_of_item _ = None

abbrev pub all_facts : List Item → List (Option TextFacts)
all_facts pool = map facts_of_item pool

abbrev pub flattened : {A : Type 0} → Option (Option A) → Option A
flattened (Some (Some x)) = Some x
flattened _ = None

abbrev pub is_known_field : Option TextFacts → Bool
is_known_field (Some facts) = facts.is_field_name
is_known_field None = false

abbrev pub is_known_method : Option TextFacts → Bool
is_known_method (Some facts) = facts.is_method_name
is_known_method None = false

abbrev pub known_field : Option TextFacts → Descriptor
known_field (Some facts) = facts.field
known_field None = Broken

abbrev pub known_method : Option TextFacts → Descriptor
known_method (Some facts) = facts.method
known_method None = Broken

-- the rule on a descriptor that was read so, with so many slots beside its own
abbrev pub tested_as : ℕ → ℕ → Descriptor → Result (Unit {0}) ClassFault
tested_as at beside (Whole slots) = expect (nat_le (slots + beside) 255) (Shape at)
tested_as at beside Float = Err (Unsupported at)
tested_as at beside Broken = Err (Shape at)
