-- Resolution of fields and methods by name (JVM Specification 5.4.3.2 to 5.4.3.4), with access (5.4.4).
use Rattle.std.specs.Prelude.{ℕ, List, Bool, true, false, Option, Some, None, Result, Ok, Err, slice_get}
use Rattle.mvm_base.specs.Answers.{◌>>=◌}
use Rattle.mvm_layout.specs.Pool.{text, class_name, name_and_type}
use Rattle.mvm_layout.specs.declared.parts.Item.{Item}
use Rattle.mvm_set.specs.Access.{is_accessible}
use Rattle.mvm_set.specs.Fields.{field_found}
use Rattle.mvm_set.specs.Members.{flags_of}
use Rattle.mvm_set.specs.Names.{own_name}
use Rattle.mvm_set.specs.declared.class.Lineage.{Lineage}
use Rattle.mvm_set.specs.declared.fault.LinkFault.{LinkFault}
use Rattle.mvm_set.specs.declared.fault.LinkFault.TheVariants.{Access}
use Rattle.mvm_set.specs.declared.found.Found.{Found}
use Rattle.mvm_set.specs.declared.found.MethodAt.{MethodAt}
use Rattle.mvm_set.specs.declared.own.OwnWalk.{OwnWalk}
use Rattle.mvm_select.specs.Told.{method_found, interface_method_found}
use Rattle.mvm_table.specs.Holders.{Loads, holder_resolved}
use Rattle.mvm_table.specs.declared.fault.LoadFault.{LoadFault}
use Rattle.mvm_table.specs.declared.fault.LoadFault.TheVariants.{Link}
use Rattle.mvm_table.specs.declared.resolved.FieldAt.{FieldAt}
use Rattle.mvm_table.specs.Slots.{slot_of}

-- ---- references (4.4.2, 4.4.6)

-- a member by the name of a class, its own name and its descriptor
pub record Reference : Type 0 where
  pub class : List ℕ
  pub name : List ℕ
  pub desc : List ℕ

abbrev pub reference_to : Option (List ℕ) → Option (List ℕ) → Option (List ℕ) → Option Reference
reference_to (Some class) (Some name) (Some desc) = Some (record { class = class; name = name; desc = desc })
reference_to _ _ _ = None

abbrev pub reference_by : List Item → Option (List ℕ) → Option (ℕ × ℕ) → Option Reference
reference_by pool class (Some pair) = reference_to class (text pool pair.0) (text pool pair.1)
reference_by pool class None = None

-- what the indices of a class and of a name and type refer to
abbrev pub reference_at : List Item → ℕ → ℕ → Option Reference
reference_at pool class member = reference_by pool (class_name pool class) (name_and_type pool member)

-- ---- access

-- a member of these flags, of the class of this name, may be accessed from a class; what has none may not
abbrev pub may_access : Lineage → Option (List ℕ) → Option ℕ → Bool
may_access from (Some holder) (Some flags) = is_accessible from holder flags
may_access from _ _ = false

abbrev pub allowed : Bool → Result (Unit {0}) LoadFault
allowed true = Ok tt
allowed false = Err (Link Access)

-- the class that declares what was found
abbrev pub holder_of : Lineage → Found → Option OwnWalk
holder_of class found = slice_get class.walk found.holder

abbrev pub field_allowed : Lineage → ℕ → Option OwnWalk → Result (Unit {0}) LoadFault
field_allowed from index (Some holder) = allowed (may_access from (own_name holder.file) (flags_of (slice_get holder.file.fields index)))
field_allowed from index None = Err (Link Access)

abbrev pub method_allowed : Lineage → ℕ → Option OwnWalk → Result (Unit {0}) LoadFault
method_allowed from index (Some holder) = allowed (may_access from (own_name holder.file) (flags_of (slice_get holder.file.methods index)))
method_allowed from index None = Err (Link Access)

abbrev pub linked_so : Result Found LinkFault → Result Found LoadFault
linked_so (Ok found) = Ok found
linked_so (Err fault) = Err (Link fault)

-- ---- fields (5.4.3.2)

abbrev pub slot_in : Lineage → ℕ → Option OwnWalk → ℕ
slot_in class index (Some holder) = slot_of class holder index
slot_in class index None = 0

-- the field that was found, where it may be accessed
unfoldable pub field_told : Lineage → Lineage → Found → Result FieldAt LoadFault
field_told from class found =
    field_allowed from found.index (holder_of class found) >>= λ may. Ok (record { class = class; found = found; slot = slot_in class found.index (holder_of class found) })

unfoldable pub field_resolved : Loads → Lineage → Reference → Result FieldAt LoadFault
field_resolved load from wanted =
    holder_resolved load from wanted.class >>= λ class.
    linked_so (field_found class wanted.name wanted.desc) >>= λ found. field_told from class found

-- ---- methods (5.4.3.3), and interface methods (5.4.3.4)

abbrev pub found_as : Bool → Lineage → Reference → Result Found LinkFault
found_as true class wanted = interface_method_found wanted.name wanted.desc class
found_as false class wanted = method_found wanted.name wanted.desc class

-- the method that was found, where it may be accessed
unfoldable pub method_told : Lineage → Lineage → Found → Result MethodAt LoadFault
method_told from class found = method_allowed from found.index (holder_of class found) >>= λ may. Ok (record { class = class; found = found })

unfoldable pub method_resolved : Loads → Bool → Lineage → Reference → Result MethodAt LoadFault
method_resolved load of_interface from wanted =
    holder_resolved load from wanted.class >>= λ class.
    linked_so (found_as of_interface class wanted) >>= λ found. method_told from class found
