-- The classes that resolving an entry of a constant pool loads, by their names.
use Rattle.std.specs.Prelude.{◌≡◌, ℕ, List, [], ◌∷◌, true, if◌then◌else◌, Option, Some, None, Result, Ok, Err, codes}
use Rattle.mvm_base.specs.Descriptor.{field_of}
use Rattle.mvm_base.specs.declared.descriptor.Base.{Base}
use Rattle.mvm_base.specs.declared.descriptor.Base.TheVariants.{Object}
use Rattle.mvm_base.specs.declared.descriptor.DescFault.{DescFault}
use Rattle.mvm_base.specs.declared.descriptor.FieldShape.{FieldShape}
use Rattle.mvm_layout.specs.Pool.{entry, text}
use Rattle.mvm_layout.specs.declared.parts.Item.{Item}
use Rattle.mvm_layout.specs.declared.parts.Item.TheVariants as item
use Rattle.mvm_set.specs.declared.class.Lineage.{Lineage}
use Rattle.mvm_table.specs.Contents.{Contents, is_shelved}
use Rattle.mvm_table.specs.Load.{is_array_name}
use Rattle.mvm_table.specs.Members.{Reference, reference_at}

abbrev pub of_base : Base → List (List ℕ)
of_base (Object name) = name ∷ []
of_base base = []

abbrev pub of_shape : Result FieldShape DescFault → List (List ℕ)
of_shape (Ok shape) = of_base shape.base
of_shape (Err fault) = []

-- of a class the class, and of an array class that of its elements
unfoldable pub of_class : List ℕ → List (List ℕ)
of_class name = if is_array_name name then of_shape (field_of name) else name ∷ []

-- of the class of a member reference
unfoldable pub of_holder : List ℕ → List (List ℕ)
of_holder name = if is_array_name name then codes "java/lang/Object" ∷ of_shape (field_of name) else name ∷ []

abbrev pub of_named : Option (List ℕ) → List (List ℕ)
of_named (Some name) = of_class name
of_named None = []

abbrev pub of_reference : Option Reference → List (List ℕ)
of_reference (Some wanted) = of_holder wanted.class
of_reference None = []

abbrev pub of_entry : List Item → Option Item → List (List ℕ)
of_entry pool (Some (item.Class name)) = of_named (text pool name)
of_entry pool (Some (item.Fieldref class member)) = of_reference (reference_at pool class member)
of_entry pool (Some (item.Methodref class member)) = of_reference (reference_at pool class member)
of_entry pool (Some (item.InterfaceMethodref class member)) = of_reference (reference_at pool class member)
of_entry pool _ = []

-- of the entry of an index of the constant pool of a class
unfoldable pub met : Lineage → ℕ → List (List ℕ)
met from index = of_entry from.file.pool (entry from.file.pool index)

-- the classes of these names stand on the shelf of a set
abbrev pub AreOnShelf : Contents → ℕ → List (List ℕ) → Type 0
AreOnShelf table set [] = Unit {0}
AreOnShelf table set (name ∷ names) = (is_shelved table set name ≡ true) × AreOnShelf table set names
