-- The static fields of a class file: their order, and what they begin with (JVM Specification 2.3, 2.4, 4.5).
use Rattle.std.specs.Prelude.{ℕ, zero, suc, List, [], ◌∷◌, map, pos, Bool, ◌==◌, ◌&&◌, ◌||◌, if◌then◌else◌, Option, Some, None}
use Rattle.std.specs.List.{filter}
use Rattle.std.specs.Option.{option_map}
use Rattle.mvm_base.specs.declared.value.Word.{Word}
use Rattle.mvm_base.specs.declared.value.Word.TheVariants.{Int, Long, Null}
use Rattle.mvm_layout.specs.Flags.{is_static}
use Rattle.mvm_layout.specs.Pool.{text, is_text}
use Rattle.mvm_layout.specs.declared.parts.Item.{Item}
use Rattle.mvm_layout.specs.declared.parts.Member.{Member}
use Rattle.mvm_layout.specs.declared.parts.Parts.{Parts}
use Rattle.mvm_mirror.specs.declared.mirror.TheConstants.{LONG, CLASS, ARRAY}

-- what a variable of this descriptor begins with: 0, or null for a reference
abbrev pub zero_of : List ℕ → Word
zero_of [] = Int (pos 0)
zero_of (letter ∷ letters) = if letter == LONG then Long (pos 0) else (if letter == CLASS || letter == ARRAY then Null else Int (pos 0))

abbrev pub zero_or : Option (List ℕ) → Word
zero_or (Some desc) = zero_of desc
zero_or None = Int (pos 0)

-- the static fields among fields
abbrev pub statics_in : List Member → List Member
statics_in fields = filter (λ field. is_static field.flags) fields

abbrev pub zeros_in : List Item → List Member → List Word
zeros_in pool fields = map (λ field. zero_or (text pool field.desc)) (statics_in fields)

-- the static fields of a file, in their order
abbrev pub statics_of : Parts → List Member
statics_of file = statics_in file.fields

-- what each of them begins with
abbrev pub zeros : Parts → List Word
zeros file = zeros_in file.pool file.fields

-- a field has this name and this descriptor
abbrev pub is_field : List Item → List ℕ → List ℕ → Member → Bool
is_field pool field desc member = is_text field (text pool member.name) && is_text desc (text pool member.desc)

-- the place of the first field of a name and a descriptor
abbrev pub place_in : List Item → List ℕ → List ℕ → List Member → Option ℕ
place_in pool field desc [] = None
place_in pool field desc (member ∷ members) = if is_field pool field desc member then Some zero else option_map suc (place_in pool field desc members)

-- the slot of a static field, which is its place among the static fields of its class
unfoldable pub slot_of : List ℕ → List ℕ → Parts → Option ℕ
slot_of field desc file = place_in file.pool field desc (statics_of file)
