-- Fields and methods (JVM Specification 4.2.2, 4.3, 4.5, 4.6, 4.7.2, 4.7.3): the rules that they keep, each at its place, and
-- what of them is kept.
use Rattle.std.specs.Prelude.{ℕ, ◌+◌, List, [], ◌∷◌, length, Bool, true, false, not, ◌&&◌, ◌||◌, ◌==◌, nat_le, if◌then◌else◌, Option, Some, None, Result, Ok, Err, codes}
use Rattle.std.specs.List.{list_all, list_any, filter}
use Rattle.std.specs.Option.{option_map}
use Rattle.std.specs.Str.{bytes_eq}
use Rattle.mvm_base.specs.Endian.{big_number}
use Rattle.mvm_base.specs.Descriptor.{field_of, method_of, slots}
use Rattle.mvm_base.specs.declared.descriptor.MethodShape.{MethodShape}
use Rattle.mvm_base.specs.declared.descriptor.DescFault.{DescFault}
use Rattle.mvm_base.specs.declared.descriptor.DescFault.TheVariants as desc_fault
use Rattle.mvm_layout.specs.Infos.{AttributeParts}
use Rattle.mvm_layout.specs.Layout.{code_in}
use Rattle.mvm_layout.specs.declared.fault.ClassFault.{ClassFault}
use Rattle.mvm_layout.specs.declared.fault.ClassFault.TheVariants.{Shape, Unsupported}
use Rattle.mvm_layout.specs.declared.parts.Item.{Item}
use Rattle.mvm_layout.specs.declared.parts.Item.TheVariants.{Integer, Long, Str}
use Rattle.mvm_layout.specs.declared.parts.Code.{Code}
use Rattle.mvm_layout.specs.declared.parts.Member.{Member}
use Rattle.mvm_layout.specs.declared.info.MemberInfo.{MemberInfo}
use Rattle.mvm_layout.specs.declared.info.CodeInfo.{CodeInfo}
use Rattle.mvm_layout.specs.Flags.{has_flag, is_static, has_no_code}
use Rattle.mvm_layout.specs.declared.flags.TheConstants as flag
use Rattle.mvm_layout.specs.Pool.{entry, is_utf8, text, is_text}
use Rattle.mvm_base.specs.Rules.{expect, ◌and_then◌, each}
use Rattle.mvm_shape.specs.declared.members.TheConstants.{INTERFACE_CODE_MAJOR}

-- ---- places, counted in bytes from the beginning of the file (4.5, 4.6)

-- the index of the name of a field or a method
abbrev pub name_place : MemberInfo → ℕ
name_place member = member.at + 2

-- the index of its descriptor
abbrev pub descriptor_place : MemberInfo → ℕ
descriptor_place member = member.at + 4

-- ---- names (4.2.2)

abbrev pub is_one_of : List ℕ → ℕ → Bool
is_one_of letters unit = list_any (λ letter. unit == letter) letters

-- not empty, and none of . ; [ /
unfoldable pub is_unqualified : List ℕ → Bool
is_unqualified name = not (length name == 0) && list_all (λ unit. not (is_one_of (codes ".;[/") unit)) name

-- for a method, but for the two special ones, also none of < >
unfoldable pub is_method_name : List ℕ → Bool
is_method_name name =
    bytes_eq name (codes "<init>") || bytes_eq name (codes "<clinit>")
    || (is_unqualified name && list_all (λ unit. not (is_one_of (codes "<>") unit)) name)

abbrev pub holds : (List ℕ → Bool) → Option (List ℕ) → Bool
holds test (Some text) = test text
holds test None = false

-- ---- descriptors (4.3)

abbrev pub parsed : {A : Type 0} → ℕ → (A → Bool) → Result A DescFault → Result (Unit {0}) ClassFault
parsed at test (Ok shape) = expect (test shape) (Shape at)
parsed at test (Err desc_fault.Float) = Err (Unsupported at)
parsed at test (Err fault) = Err (Shape at)

abbrev pub field_descriptor : ℕ → Option (List ℕ) → Result (Unit {0}) ClassFault
field_descriptor at None = Err (Shape at)
field_descriptor at (Some text) = parsed at (λ field. true) (field_of text)

-- at most 255 slots of parameters, `this` counted, a long two (4.3.3)
abbrev pub has_few_parameters : ℕ → MethodShape → Bool
has_few_parameters flags method = nat_le (slots method.params + (if is_static flags then 0 else 1)) 255

abbrev pub method_descriptor : ℕ → ℕ → Option (List ℕ) → Result (Unit {0}) ClassFault
method_descriptor at flags None = Err (Shape at)
method_descriptor at flags (Some text) = parsed at (has_few_parameters flags) (method_of text)

-- ---- attributes (4.7)

abbrev pub is_named : List Item → List ℕ → AttributeParts → Bool
is_named pool name attribute = is_text name (text pool attribute.name)

-- the Code attributes among these
abbrev pub codes_among : List Item → List AttributeParts → List AttributeParts
codes_among pool attributes = filter (is_named pool (codes "Code")) attributes

-- the ConstantValue attributes among these
abbrev pub constants_among : List Item → List AttributeParts → List AttributeParts
constants_among pool attributes = filter (is_named pool (codes "ConstantValue")) attributes

-- the descriptor of a boolean, byte, char, short or int
abbrev pub is_int_text : Option (List ℕ) → Bool
is_int_text desc = is_text (codes "Z") desc || is_text (codes "B") desc || is_text (codes "C") desc || is_text (codes "S") desc || is_text (codes "I") desc

-- an entry that a field of this descriptor may have as its value at first (4.7.2)
abbrev pub is_constant_of : Option (List ℕ) → Option Item → Bool
is_constant_of desc (Some (Integer n)) = is_int_text desc
is_constant_of desc (Some (Long n)) = is_text (codes "J") desc
is_constant_of desc (Some (Str text)) = is_text (codes "Ljava/lang/String;") desc
is_constant_of desc _ = false

-- two bytes, the index of such an entry
abbrev pub is_constant_value : List Item → ℕ → List ℕ → Bool
is_constant_value pool desc content = length content == 2 && is_constant_of (text pool desc) (entry pool (big_number 2 content))

-- its name is a text; a ConstantValue of a static field has a value that the field may have
unfoldable pub field_attribute : List Item → MemberInfo → AttributeParts → Result (Unit {0}) ClassFault
field_attribute pool member attribute =
    expect (is_utf8 (entry pool attribute.name)
    && (not (is_named pool (codes "ConstantValue") attribute && is_static member.flags) || is_constant_value pool member.desc attribute.content)) (Shape attribute.at)

-- its name is a text
unfoldable pub named_attribute : List Item → AttributeParts → Result (Unit {0}) ClassFault
named_attribute pool attribute = expect (is_utf8 (entry pool attribute.name)) (Shape attribute.at)

-- the content of a Code attribute is code, whose attributes have names
abbrev pub code_attribute : List Item → ℕ → Option CodeInfo → Result (Unit {0}) ClassFault
code_attribute pool at None = Err (Shape at)
code_attribute pool at (Some info) = each (named_attribute pool) info.attributes

-- its name is a text; a Code is code
unfoldable pub method_attribute : List Item → AttributeParts → Result (Unit {0}) ClassFault
method_attribute pool attribute =
    named_attribute pool attribute
    and_then (if is_named pool (codes "Code") attribute then code_attribute pool attribute.at (code_in attribute) else Ok tt)

-- ---- members (4.5, 4.6)

abbrev pub same_text : Option (List ℕ) → Option (List ℕ) → Bool
same_text (Some one) (Some other) = bytes_eq one other
same_text _ _ = false

-- equal name and descriptor, by their texts (4.5, 4.6)
abbrev pub is_same : List Item → MemberInfo → MemberInfo → Bool
is_same pool one other = same_text (text pool one.name) (text pool other.name) && same_text (text pool one.desc) (text pool other.desc)

-- a member before it has its name and descriptor
abbrev pub is_repeated : List Item → List MemberInfo → MemberInfo → Bool
is_repeated pool before member = list_any (is_same pool member) before

-- not the second of its name and descriptor (4.5); at most one ConstantValue (4.7.2); static, where it is an interface's (4.5)
unfoldable pub is_sound_field : List Item → Bool → Bool → MemberInfo → Bool
is_sound_field pool is_interface repeated member =
    not repeated
    && nat_le (length (constants_among pool member.attributes)) 1
    && (not is_interface || is_static member.flags)

unfoldable pub tested_field : List Item → Bool → Bool → MemberInfo → Result (Unit {0}) ClassFault
tested_field pool is_interface repeated member =
    expect (is_sound_field pool is_interface repeated member) (Shape member.at)
    and_then expect (holds is_unqualified (text pool member.name)) (Shape (name_place member))
    and_then field_descriptor (descriptor_place member) (text pool member.desc)
    and_then each (field_attribute pool member) member.attributes

unfoldable pub field_rule : List Item → Bool → List MemberInfo → MemberInfo → Result (Unit {0}) ClassFault
field_rule pool is_interface before member = tested_field pool is_interface (is_repeated pool before member) member

-- one Code, or none where it is native or abstract (4.7.3)
abbrev pub has_right_code : List Item → MemberInfo → Bool
has_right_code pool member = length (codes_among pool member.attributes) == (if has_no_code member.flags then 0 else 1)

-- not the second of its name and descriptor, and with code as it should be
unfoldable pub is_sound_method : List Item → Bool → MemberInfo → Bool
is_sound_method pool repeated member = not repeated && has_right_code pool member

-- a method of an interface with code, but for the interface initialization method, which is known by its name (2.9, 4.7.3)
abbrev pub is_interface_code : List Item → Bool → MemberInfo → Bool
is_interface_code pool is_interface member = is_interface && not (has_no_code member.flags) && not (is_text (codes "<clinit>") (text pool member.name))

abbrev pub has_exactly_one : ℕ → ℕ → ℕ → Bool
has_exactly_one one other flags = (has_flag one flags || has_flag other flags) && not (has_flag one flags && has_flag other flags)

-- public or private, and neither protected nor final nor synchronized (4.6)
abbrev pub has_interface_code_flags : ℕ → Bool
has_interface_code_flags flags =
    has_exactly_one flag.PUBLIC flag.PRIVATE flags
    && not (has_flag flag.PROTECTED flags)
    && not (has_flag flag.FINAL flags)
    && not (has_flag flag.SYNCHRONIZED flags)

-- in a file of this version methods of an interface may have code (4.6)
abbrev pub may_have_interface_code : ℕ → Bool
may_have_interface_code major = nat_le INTERFACE_CODE_MAJOR major

-- code of an interface has the flags for it, where the version knows it (4.6)
abbrev pub keeps_interface_flags : List Item → ℕ → Bool → MemberInfo → Bool
keeps_interface_flags pool major is_interface member =
    not (is_interface_code pool is_interface member && may_have_interface_code major) || has_interface_code_flags member.flags

-- it is no code of an interface, or the version knows it (4.6)
abbrev pub keeps_interface_version : List Item → ℕ → Bool → MemberInfo → Bool
keeps_interface_version pool major is_interface member = not (is_interface_code pool is_interface member) || may_have_interface_code major

unfoldable pub tested_method : List Item → ℕ → Bool → Bool → MemberInfo → Result (Unit {0}) ClassFault
tested_method pool major is_interface repeated member =
    expect (is_sound_method pool repeated member) (Shape member.at)
    and_then expect (keeps_interface_flags pool major is_interface member) (Shape member.at)
    and_then expect (keeps_interface_version pool major is_interface member) (Unsupported member.at)
    and_then expect (holds is_method_name (text pool member.name)) (Shape (name_place member))
    and_then method_descriptor (descriptor_place member) member.flags (text pool member.desc)
    and_then each (method_attribute pool) member.attributes

unfoldable pub method_rule : List Item → ℕ → Bool → List MemberInfo → MemberInfo → Result (Unit {0}) ClassFault
method_rule pool major is_interface before member = tested_method pool major is_interface (is_repeated pool before member) member

-- ---- what is kept of a member

abbrev pub first : {A : Type 0} → List A → Option A
first [] = None
first (x ∷ xs) = Some x

abbrev pub index_in : AttributeParts → ℕ
index_in attribute = big_number 2 attribute.content

-- a static field's ConstantValue
unfoldable pub field_part : List Item → MemberInfo → Member
field_part pool member = record {
  flags = member.flags;
  name = member.name;
  desc = member.desc;
  constant = if is_static member.flags then option_map index_in (first (constants_among pool member.attributes)) else None;
  code = None;
}

abbrev pub code_of_info : Option CodeInfo → Option Code
code_of_info (Some info) = Some info.code
code_of_info None = None

abbrev pub code_of : Option AttributeParts → Option Code
code_of (Some attribute) = code_of_info (code_in attribute)
code_of None = None

-- a method's Code
unfoldable pub method_part : List Item → MemberInfo → Member
method_part pool member = record {
  flags = member.flags;
  name = member.name;
  desc = member.desc;
  constant = None;
  code = code_of (first (codes_among pool member.attributes));
}
