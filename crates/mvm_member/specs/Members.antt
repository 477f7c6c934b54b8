-- The members that references name, by the name of the class that declares them, and where their values and code stand (JVM Specification 4.5, 4.6,
-- 5.4.3).
use Rattle.std.specs.Prelude.{ℕ, ◌+◌, List, Option, Some, None, slice_get}
use Rattle.std.specs.Option.{option_map}
use Rattle.mvm_layout.specs.Pool.{text}
use Rattle.mvm_layout.specs.declared.parts.Member.{Member}
use Rattle.mvm_layout.specs.declared.parts.Parts.{Parts}
use Rattle.mvm_select.specs.MostSpecific.{supers}
use Rattle.mvm_set.specs.FieldPlaces.{fields_before}
use Rattle.mvm_set.specs.Members.{field_at, method_at}
use Rattle.mvm_set.specs.Names.{own_name}
use Rattle.mvm_set.specs.declared.class.Lineage.{Lineage}
use Rattle.mvm_set.specs.declared.found.MethodAt.{MethodAt}
use Rattle.mvm_set.specs.declared.own.OwnWalk.{OwnWalk}
use Rattle.mvm_table.specs.Slots.{instance_fields}
use Rattle.mvm_table.specs.declared.resolved.FieldAt.{FieldAt}

-- a field or a method: the class that declares it, its name, its descriptor, and its access flags
pub record MemberName : Type 0 where
  pub class : List ℕ
  pub name : List ℕ
  pub desc : List ℕ
  pub flags : ℕ

abbrev pub member_named : Option (List ℕ) → Option (List ℕ) → Option (List ℕ) → ℕ → Option MemberName
member_named (Some class) (Some name) (Some desc) flags = Some (record { class = class; name = name; desc = desc; flags = flags })
member_named _ _ _ flags = None

abbrev pub named_in : Parts → Option Member → Option MemberName
named_in file (Some member) = member_named (own_name file) (text file.pool member.name) (text file.pool member.desc) member.flags
named_in file None = None

abbrev pub field_of : ℕ → Option OwnWalk → Option MemberName
field_of index (Some holder) = named_in holder.file (slice_get holder.file.fields index)
field_of index None = None

abbrev pub method_of : ℕ → Option OwnWalk → Option MemberName
method_of index (Some holder) = named_in holder.file (slice_get holder.file.methods index)
method_of index None = None

-- the field that was resolved
unfoldable pub field_named : FieldAt → Option MemberName
field_named field = field_of field.found.index (slice_get field.class.walk field.found.holder)

-- the method that was resolved, or selected in a class
unfoldable pub method_named : MethodAt → Option MemberName
method_named method = method_of method.found.index (slice_get method.class.walk method.found.holder)

-- ---- the value of an instance field

abbrev pub own_place : List Member → Option ℕ → Option ℕ
own_place fields (Some index) = fields_before fields index
own_place fields None = None

-- Where the value of a field that a class declares stands in an object: behind those of the instance fields of its superclasses, in the order
-- of its file.
unfoldable pub place_of : List ℕ → List ℕ → Lineage → Option ℕ
place_of name desc class = option_map (λ own. instance_fields (supers class.line) + own) (own_place class.file.fields (field_at name desc class.file))

-- ---- a method and its code

abbrev pub member_at : List Member → Option ℕ → Option Member
member_at members (Some index) = slice_get members index
member_at members None = None

-- the method of this name and descriptor that a class declares
unfoldable pub method_declared : List ℕ → List ℕ → Parts → Option Member
method_declared name desc file = member_at file.methods (method_at name desc file)
