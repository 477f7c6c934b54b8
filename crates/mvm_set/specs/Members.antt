-- The fields and methods of a file, by name and descriptor (JVM Specification 4.5, 4.6).
use Rattle.std.specs.Prelude.{ℕ, ◌+◌, List, [], ◌∷◌, Bool, not, ◌&&◌, ◌||◌, if◌then◌else◌, Option, Some, None, slice_get}
use Rattle.std.specs.List.{list_any}
use Rattle.mvm_layout.specs.Flags.{has_flag, is_static}
use Rattle.mvm_layout.specs.declared.flags.TheConstants as flag
use Rattle.mvm_layout.specs.Pool.{text, is_text}
use Rattle.mvm_layout.specs.declared.parts.Item.{Item}
use Rattle.mvm_layout.specs.declared.parts.Member.{Member}
use Rattle.mvm_layout.specs.declared.parts.Parts.{Parts}

-- a member has this name and descriptor
abbrev pub is_member : List Item → List ℕ → List ℕ → Member → Bool
is_member pool name desc member = is_text name (text pool member.name) && is_text desc (text pool member.desc)

-- the place of the first such member, counted on from a place
abbrev pub member_from : ℕ → List Item → List ℕ → List ℕ → List Member → Option ℕ
member_from at pool name desc [] = None
member_from at pool name desc (member ∷ members) = if is_member pool name desc member then Some at else member_from (at + 1) pool name desc members

-- the place of a file's field of this name and descriptor
unfoldable pub field_at : List ℕ → List ℕ → Parts → Option ℕ
field_at name desc file = member_from 0 file.pool name desc file.fields

-- the place of a file's method of this name and descriptor
unfoldable pub method_at : List ℕ → List ℕ → Parts → Option ℕ
method_at name desc file = member_from 0 file.pool name desc file.methods

abbrev pub flags_of : Option Member → Option ℕ
flags_of (Some member) = Some member.flags
flags_of None = None

abbrev pub flags_in : List Member → Option ℕ → Option ℕ
flags_in members (Some at) = flags_of (slice_get members at)
flags_in members None = None

-- the access flags of a file's method of this name and descriptor, if it has one
unfoldable pub flags_at : List ℕ → List ℕ → Parts → Option ℕ
flags_at name desc file = flags_in file.methods (method_at name desc file)

-- a method is neither abstract nor static
abbrev pub is_concrete_instance_method : Member → Bool
is_concrete_instance_method method = not (has_flag flag.ABSTRACT method.flags || is_static method.flags)

-- A file declares a method that is neither abstract nor static: where it is an interface, it is initialised with a class of which it is
-- a superinterface (5.5, step 7).
unfoldable pub declares_concrete_instance_method : Parts → Bool
declares_concrete_instance_method file = list_any is_concrete_instance_method file.methods
