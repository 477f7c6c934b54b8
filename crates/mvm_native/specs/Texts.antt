-- Values as text, and text as UTF-8.
use Rattle.std.specs.Prelude.{◌≡◌, ◌<◌, ℕ, ◌%◌, ◌^◌, ℤ, pos, List, [], ◌∷◌, length, if◌then◌else◌, Option, Some, None, codes, encode_utf8}
use Rattle.std.specs.List.{flat_map}
use Rattle.std.specs.Char.Utf16.{utf16_chars}
use Rattle.std.specs.Fmt.{signed_decimal}
use Rattle.std.specs.Int.{w32, cast_unsigned}
use Rattle.std.specs.Ordering.{int_eq}
use Rattle.mvm_base.specs.declared.value.Word.{Word}
use Rattle.mvm_base.specs.declared.value.Word.TheVariants.{Ref}
use Rattle.mvm_heap.specs.declared.kind.ObjectKind.TheVariants.{Text}
use Rattle.mvm_heap.specs.Heap.{object_at}
use Rattle.mvm_heap.specs.Objects.{Object}
use Rattle.mvm_native.specs.declared.texts.ValueKind.{ValueKind}
use Rattle.mvm_native.specs.declared.texts.ValueKind.TheVariants as kind
use Rattle.mvm_native.specs.Arguments.{int_of, long_of}

-- ---- UTF-8

-- a surrogate without a partner is written as a question mark
abbrev pub shown_character : Option ℕ → List ℕ
shown_character None = codes "?"
shown_character (Some character) = encode_utf8 character

-- the characters of UTF-16 units, in UTF-8
unfoldable pub shown : List ℕ → List ℕ
shown units = flat_map shown_character (utf16_chars units)

-- ---- the units of a text

abbrev pub units_at : List Object → ℕ → List ℕ
units_at os n = (object_at os n).contents

abbrev pub IsText : List Object → ℕ → Type 0
IsText os n = (n < length os) × ((object_at os n).sort ≡ Text)

abbrev pub IsObjectOrNull : List Object → Word → Type 0
IsObjectOrNull os (Ref n) = n < length os
IsObjectOrNull os _ = Unit {0}

abbrev pub IsTextOrNull : List Object → Word → Type 0
IsTextOrNull os (Ref n) = IsText os n
IsTextOrNull os _ = Unit {0}

-- ---- values

-- the unit of a char: its low 16 bits
abbrev pub unit_of : ℤ → ℕ
unit_of value = cast_unsigned w32 value % 2 ^ 16

abbrev pub truth_text : ℤ → List ℕ
truth_text value = if int_eq value (pos 0) then codes "false" else codes "true"

abbrev pub text_or_null : List Object → Word → List ℕ
text_or_null os (Ref n) = units_at os n
text_or_null os _ = codes "null"

-- the text of a value, as the methods `valueOf` of String have it (Java SE 8 API, java.lang.String)
abbrev pub text_of : List Object → ValueKind → Word → List ℕ
text_of os kind.Int value = signed_decimal (int_of value)
text_of os kind.Long value = signed_decimal (long_of value)
text_of os kind.Char value = unit_of (int_of value) ∷ []
text_of os kind.Boolean value = truth_text (int_of value)
text_of os kind.Text value = text_or_null os value

-- what such a value has to be
abbrev pub HasText : List Object → ValueKind → Word → Type 0
HasText os kind.Text value = IsTextOrNull os value
HasText os _ value = Unit {0}
