-- What a call answers that looks an entry up, against what the definition gives.
use Rattle.std.specs.Prelude.{◌≡◌, ℕ, List, Some, Result, Ok}
use Rattle.mvm_base.specs.declared.descriptor.FieldShape.{FieldShape}
use Rattle.mvm_set.specs.Names.{own_name}
use Rattle.mvm_set.specs.declared.class.Lineage.{Lineage}
use Rattle.mvm_table.specs.Files.{File}
use Rattle.mvm_table.specs.Loads.{IsLoaded}
use Rattle.mvm_table.specs.declared.resolved.FieldAt.{FieldAt}
use Rattle.mvm_member.specs.Members.{MemberName, field_named}
use Rattle.mvm_isolate.specs.Types.{ReferenceType, of_class, of_array}
use Rattle.mvm_isolate.specs.declared.stop.Stop.{Stop}
use Rattle.mvm_current.specs.declared.entries.TypeEntry.{TypeEntry}
use Rattle.mvm_current.specs.declared.entries.TypeEntry.TheVariants.{Class, Array}

-- the definition gives the type that is the class
pub record IsClassType (class : Lineage) (definition : Result ReferenceType Stop) : Type 0 where
  pub name : List ℕ
  pub is_name : own_name class.file ≡ Some name
  pub is_type : definition ≡ Ok (of_class name)

abbrev pub HasType : TypeEntry → Result ReferenceType Stop → Type 0
HasType (Class class) definition = IsClassType class definition
HasType (Array shape) definition = definition ≡ Ok (of_array shape)

-- the class was loaded
abbrev pub IsLoadedType : List (List File) → TypeEntry → Type 0
IsLoadedType files (Class class) = IsLoaded files class
IsLoadedType files (Array shape) = Unit {0}

-- the definition gives the names of the field
pub record HasField (field : FieldAt) (definition : Result MemberName Stop) : Type 0 where
  pub member : MemberName
  pub is_member : field_named field ≡ Some member
  pub is_entry : definition ≡ Ok member
