-- Names and lines as text.
use Rattle.std.specs.Prelude.{ℕ, List, ◌++◌, Option, Some, None, nat_lt, if◌then◌else◌, codes, encode_utf8}
use Rattle.std.specs.List.{flat_map}
use Rattle.std.specs.Char.Utf16.{utf16_chars}

-- a surrogate without a partner and a control character are shown as a question mark
abbrev pub shown_character : Option ℕ → List ℕ
shown_character None = codes "?"
shown_character (Some character) = if nat_lt character 32 then codes "?" else encode_utf8 character

-- the characters of UTF-16 units, in UTF-8
unfoldable pub shown : List ℕ → List ℕ
shown units = flat_map shown_character (utf16_chars units)

-- a text, and the line feed that ends its line
abbrev pub line : List ℕ → List ℕ
line text = text ++ codes "\n"
