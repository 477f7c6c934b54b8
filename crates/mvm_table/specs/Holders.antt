-- Resolution of classes and of array classes (JVM Specification 5.4.3.1), and of the class of a member reference. Each rule takes what
-- loading gives for a name as a parameter, so that what shares a class that it looked up keeps the rule.
use Rattle.std.specs.Prelude.{ℕ, List, Bool, false, if◌then◌else◌, Option, Some, None, Result, Ok, Err, codes}
use Rattle.mvm_base.specs.Answers.{◌>>=◌}
use Rattle.mvm_base.specs.Descriptor.{field_of}
use Rattle.mvm_base.specs.declared.descriptor.Base.{Base}
use Rattle.mvm_base.specs.declared.descriptor.Base.TheVariants.{Object}
use Rattle.mvm_base.specs.declared.descriptor.DescFault.{DescFault}
use Rattle.mvm_base.specs.declared.descriptor.FieldShape.{FieldShape}
use Rattle.mvm_layout.specs.declared.parts.Parts.{Parts}
use Rattle.mvm_set.specs.Access.{is_reachable}
use Rattle.mvm_set.specs.Names.{own_name}
use Rattle.mvm_set.specs.declared.class.Lineage.{Lineage}
use Rattle.mvm_set.specs.declared.fault.LinkFault.TheVariants.{Access}
use Rattle.mvm_table.specs.Load.{is_array_name}
use Rattle.mvm_table.specs.declared.fault.LoadFault.{LoadFault}
use Rattle.mvm_table.specs.declared.fault.LoadFault.TheVariants.{NoClass, Link}

-- what loading gives for a name
abbrev pub Loads : Type 0
Loads = List ℕ → Result Lineage LoadFault

-- ---- classes

-- a class is accessible from the class of this name, if there is one
abbrev pub is_reachable_by : Option (List ℕ) → Parts → Bool
is_reachable_by (Some from) file = is_reachable from file
is_reachable_by None file = false

-- a class that was loaded, where it is accessible from another (5.4.4)
abbrev pub reached : Lineage → Lineage → Result Lineage LoadFault
reached from class = if is_reachable_by (own_name from.file) class.file then Ok class else Err (Link Access)

-- the class of a name, as another class resolves it
unfoldable pub class_resolved : Loads → Lineage → List ℕ → Result Lineage LoadFault
class_resolved load from name = load name >>= reached from

-- ---- array classes

-- an array class is as accessible as the class of its elements
abbrev pub element_resolved : Loads → Lineage → Base → Result (Unit {0}) LoadFault
element_resolved load from (Object name) = class_resolved load from name >>= λ class. Ok tt
element_resolved load from base = Ok tt

-- there is no array class of which the name is no descriptor
abbrev pub or_no_class : Result FieldShape DescFault → Result FieldShape LoadFault
or_no_class (Ok shape) = Ok shape
or_no_class (Err fault) = Err NoClass

-- the shape of the array class of a name
unfoldable pub array_resolved : Loads → Lineage → List ℕ → Result FieldShape LoadFault
array_resolved load from name = or_no_class (field_of name) >>= λ shape. element_resolved load from shape.base >>= λ element. Ok shape

-- ---- the class of a member reference

-- the class that it names; of an array class, which is resolved first, java/lang/Object
unfoldable pub holder_resolved : Loads → Lineage → List ℕ → Result Lineage LoadFault
holder_resolved load from name =
    if is_array_name name then (array_resolved load from name >>= λ shape. load (codes "java/lang/Object")) else class_resolved load from name
