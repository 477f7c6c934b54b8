-- The text that bytes are the modified UTF-8 of, as it is found (JVM Specification 4.4.7). What a text is spelled by is said in
-- ModifiedUtf8.antt of mvm_base; that this finds just the text that is spelled so is the clause `text` of `layout_law`.
use Rattle.std.specs.Prelude.{ℕ, ◌+◌, ◌-◌, ◌*◌, ◌^◌, List, [], ◌∷◌, Bool, nat_le, nat_lt, ◌&&◌, if◌then◌else◌, Option, Some, None}
use Rattle.std.specs.List.{list_all}
use Rattle.std.specs.Str.{bytes_eq}
use Rattle.mvm_base.specs.ModifiedUtf8.{spelled_all}

-- a byte that is not the first of its unit
abbrev pub is_further : ℕ → Bool
is_further byte = nat_le 128 byte && nat_lt byte 192

-- the bits of the unit in its first byte
abbrev pub first_bits : ℕ → ℕ
first_bits byte = if nat_lt byte 192 then byte else (if nat_lt byte 224 then byte - 192 else byte - 224)

-- The units of bytes, of the first of which these bits came before: each byte that is not the first of its unit adds six bits.
abbrev pub units_from : ℕ → List ℕ → List ℕ
units_from bits [] = bits ∷ []
units_from bits (byte ∷ rest) = if is_further byte then units_from (bits * 64 + (byte - 128)) rest else bits ∷ units_from (first_bits byte) rest

-- the units of bytes, whatever spells them
abbrev pub units_of : List ℕ → List ℕ
units_of [] = []
units_of (byte ∷ rest) = units_from (first_bits byte) rest

-- those units, where the bytes are their one spelling
unfoldable pub decoded_text : List ℕ → Option (List ℕ)
decoded_text bytes =
    if list_all (λ unit. nat_lt unit (2 ^ 16)) (units_of bytes) && bytes_eq (spelled_all (units_of bytes)) bytes then Some (units_of bytes) else None
