-- Resolution of the entries of a class's constant pool (JVM Specification 5.4.3): what an entry stands for, or the first fault.
use Rattle.std.specs.Prelude.{ℕ, List, Bool, true, false, if◌then◌else◌, Option, Some, None, Result, Ok}
use Rattle.mvm_base.specs.Answers.{◌>>=◌}
use Rattle.mvm_layout.specs.Pool.{entry, text}
use Rattle.mvm_layout.specs.declared.parts.Item.{Item}
use Rattle.mvm_layout.specs.declared.parts.Item.TheVariants as item
use Rattle.mvm_set.specs.declared.class.Lineage.{Lineage}
use Rattle.mvm_table.specs.Files.{File}
use Rattle.mvm_table.specs.Holders.{Loads, class_resolved, array_resolved}
use Rattle.mvm_table.specs.Load.{is_array_name}
use Rattle.mvm_table.specs.Loads.{class_in, IsLoaded}
use Rattle.mvm_table.specs.Members.{Reference, reference_at, field_resolved, method_resolved}
use Rattle.mvm_table.specs.declared.fault.LoadFault.{LoadFault}
use Rattle.mvm_table.specs.declared.resolved.Resolved.{Resolved}
use Rattle.mvm_table.specs.declared.resolved.Resolved.TheVariants as resolved

-- a class or an array class, by its name
unfoldable pub named_resolved : Loads → Lineage → List ℕ → Result Resolved LoadFault
named_resolved load from name =
    if is_array_name name then (array_resolved load from name >>= λ shape. Ok (resolved.Array shape)) else (class_resolved load from name >>= λ class. Ok (resolved.Class class))

abbrev pub class_entry : Loads → Lineage → Option (List ℕ) → Result Resolved LoadFault
class_entry load from (Some name) = named_resolved load from name
class_entry load from None = Ok resolved.Other

-- a field
abbrev pub field_entry : Loads → Lineage → Option Reference → Result Resolved LoadFault
field_entry load from (Some wanted) = field_resolved load from wanted >>= λ field. Ok (resolved.Field field)
field_entry load from None = Ok resolved.Other

-- a method of an interface, or of a class
abbrev pub method_entry : Loads → Bool → Lineage → Option Reference → Result Resolved LoadFault
method_entry load of_interface from (Some wanted) = method_resolved load of_interface from wanted >>= λ method. Ok (resolved.Method method)
method_entry load of_interface from None = Ok resolved.Other

-- the units of a string constant (5.1)
abbrev pub text_entry : Option (List ℕ) → Resolved
text_entry (Some units) = resolved.Text units
text_entry None = resolved.Other

-- what an entry of the pool of a class stands for; Other where no instruction of this machine's profile uses it
abbrev pub entry_resolved : Loads → Lineage → List Item → Option Item → Result Resolved LoadFault
entry_resolved load from pool (Some (item.Class name)) = class_entry load from (text pool name)
entry_resolved load from pool (Some (item.Fieldref class member)) = field_entry load from (reference_at pool class member)
entry_resolved load from pool (Some (item.Methodref class member)) = method_entry load false from (reference_at pool class member)
entry_resolved load from pool (Some (item.InterfaceMethodref class member)) = method_entry load true from (reference_at pool class member)
entry_resolved load from pool (Some (item.Integer n)) = Ok (resolved.Int n)
entry_resolved load from pool (Some (item.Long n)) = Ok (resolved.Long n)
entry_resolved load from pool (Some (item.Str units)) = Ok (text_entry (text pool units))
entry_resolved load from pool _ = Ok resolved.Other

-- the entry of an index, for any look-up of classes by their names
unfoldable pub resolve_with : Loads → Lineage → ℕ → Result Resolved LoadFault
resolve_with load from index = entry_resolved load from from.file.pool (entry from.file.pool index)

-- the same for what loading gives on the files of the set of the class
abbrev pub resolve : List (List File) → Lineage → ℕ → Result Resolved LoadFault
resolve table from index = resolve_with (class_in table from.set) from index

-- the class in what an entry stands for was loaded
abbrev pub HasLoaded : List (List File) → Resolved → Type 0
HasLoaded table (resolved.Class class) = IsLoaded table class
HasLoaded table (resolved.Field field) = IsLoaded table field.class
HasLoaded table (resolved.Method method) = IsLoaded table method.class
HasLoaded table _ = Unit {0}
