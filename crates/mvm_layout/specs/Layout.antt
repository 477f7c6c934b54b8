-- The layout of a class file (JVM Specification 4.1, 4.5 to 4.7), front to back.
use Rattle.std.specs.Prelude.{ℕ, ◌+◌, List, length, ◌&&◌, ◌==◌, nat_le, Option, Some, None, Result, Ok, Err}
use Rattle.mvm_base.specs.Answers.{◌>>=◌}
use Rattle.mvm_base.specs.Place.{Place}
use Rattle.mvm_layout.specs.Infos.{AttributeParts}
use Rattle.mvm_layout.specs.Format.{Format, bytes, number, followed, standing, mapped, passing, passing_at, counted, kept, if_passing}
use Rattle.mvm_layout.specs.Entries.{second, pool}
use Rattle.mvm_layout.specs.declared.fault.ClassFault.{ClassFault}
use Rattle.mvm_layout.specs.declared.fault.ClassFault.TheVariants.{Magic, Version, Trailing, Shape}
use Rattle.mvm_layout.specs.declared.parts.Item.{Item}
use Rattle.mvm_layout.specs.declared.parts.Row.{Row}
use Rattle.mvm_layout.specs.declared.info.MemberInfo.{MemberInfo}
use Rattle.mvm_layout.specs.declared.info.ClassInfo.{ClassInfo}
use Rattle.mvm_layout.specs.declared.info.CodeInfo.{CodeInfo}

-- the length of a content in bytes, and the content, which is not looked into
abbrev pub content : Format (List ℕ)
content = mapped second (followed (number 4) bytes)

abbrev pub attribute_of : ℕ × (ℕ × List ℕ) → AttributeParts
attribute_of (at, (name, content)) = record { at = at; name = name; content = content }

unfoldable pub attribute : Format AttributeParts
attribute = mapped attribute_of (standing (followed (number 2) (λ name. content)))

unfoldable pub attributes : Format (List AttributeParts)
attributes = counted attribute

abbrev pub member_of : ℕ × (ℕ × (ℕ × (ℕ × List AttributeParts))) → MemberInfo
member_of (at, (flags, (name, (desc, attributes)))) = record { at = at; flags = flags; name = name; desc = desc; attributes = attributes }

-- a field or a method
unfoldable pub member : Format MemberInfo
member =
    mapped member_of (standing (
    followed (number 2) (λ flags.
    followed (number 2) (λ name.
    followed (number 2) (λ desc. attributes)))))

unfoldable pub members : Format (List MemberInfo)
members = counted member

unfoldable pub interfaces : Format (List ℕ)
interfaces = counted (number 2)

unfoldable pub magic : Format ℕ
magic = passing (λ n. n == 0xCAFEBABE) (λ n. Magic) (number 4)

-- the major version
unfoldable pub major : Format ℕ
major = passing (λ n. nat_le 45 n && nat_le n 52) Version (number 2)

-- what stands behind the constant pool: the access flags with their place, and so on
abbrev pub Body : Type 0
Body = (ℕ × ℕ) × (ℕ × (ℕ × (List ℕ × (List MemberInfo × (List MemberInfo × List AttributeParts)))))

unfoldable pub body : Format Body
body =
    followed (standing (number 2)) (λ flags.
    followed (number 2) (λ this_class.
    followed (number 2) (λ super_class.
    followed interfaces (λ interfaces.
    followed members (λ fields.
    followed members (λ methods. attributes))))))

abbrev pub info_of : ℕ × (ℕ × (ℕ × (List Item × Body))) → ClassInfo
info_of (_, (minor, (major, (pool, ((at, flags), (this_class, (super_class, (interfaces, (fields, (methods, attributes)))))))))) = record {
  minor = minor;
  major = major;
  pool = pool;
  at = at;
  flags = flags;
  this_class = this_class;
  super_class = super_class;
  interfaces = interfaces;
  fields = fields;
  methods = methods;
  attributes = attributes;
}

unfoldable pub layout : Format ClassInfo
layout =
    mapped info_of (
    followed magic (λ magic.
    followed (number 2) (λ minor.
    followed major (λ major.
    followed pool (λ pool. body)))))

-- nothing is left
abbrev pub ended : {A : Type 0} → A × Place → Result A ClassFault
ended x = kept (if_passing (length x.1.rest == 0) x.0) (Trailing x.1.at)

-- what stands in the bytes, all of them, or their first fault
unfoldable pub laid : List ℕ → Result ClassInfo ClassFault
laid text = layout.read (record { at = 0; rest = text }) >>= ended

-- ---- the content of a `Code` attribute (4.7.3)

abbrev pub row_of : ℕ × (ℕ × (ℕ × ℕ)) → Row
row_of (start, (end, (handler, catch_class))) = record { start = start; end = end; handler = handler; catch_class = catch_class }

unfoldable pub row : Format Row
row =
    mapped row_of (
    followed (number 2) (λ start.
    followed (number 2) (λ end.
    followed (number 2) (λ handler. number 2))))

unfoldable pub rows : Format (List Row)
rows = counted row

-- the length of the instructions in bytes, 1 to 65,535, and the instructions; no other length can stand there
unfoldable pub instructions : Format (List ℕ)
instructions = passing_at (λ text. nat_le 1 (length text) && nat_le (length text) 65535) Shape content

abbrev pub code_of : ℕ × (ℕ × (List ℕ × (List Row × List AttributeParts))) → CodeInfo
code_of (max_stack, (max_locals, (bytes, (rows, attributes)))) = record { code = record { max_stack = max_stack; max_locals = max_locals; bytes = bytes; rows = rows }; attributes = attributes }

unfoldable pub code : Format CodeInfo
code =
    mapped code_of (
    followed (number 2) (λ max_stack.
    followed (number 2) (λ max_locals.
    followed instructions (λ text.
    followed rows (λ rows. attributes)))))

abbrev pub read_whole : Result CodeInfo ClassFault → Option CodeInfo
read_whole (Ok x) = Some x
read_whole (Err fault) = None

-- The content of an attribute, all of it, spells this code, at its place in the file: behind the index of the name and the length.
abbrev pub IsCode : AttributeParts → CodeInfo → Type 0
IsCode attribute info = code.spells info (attribute.at + 6) attribute.content

-- the code that is read from the content, all of it, or the first fault
unfoldable pub code_laid : AttributeParts → Result CodeInfo ClassFault
code_laid attribute = code.read (record { at = attribute.at + 6; rest = attribute.content }) >>= ended

-- that code, or none where there is a fault
unfoldable pub code_in : AttributeParts → Option CodeInfo
code_in attribute = read_whole (code_laid attribute)
