-- The name of a class or an interface, as class files spell it (JVM Specification 4.2.1).
use Rattle.std.specs.Prelude.{ℕ, List, [], ◌∷◌, Bool, false, not, ◌==◌, codes}
use Rattle.std.specs.List.{list_all, list_any, slice_split}

-- the parts between the slashes: one more than there are slashes
abbrev pub parts_of : List ℕ → List (List ℕ)
parts_of name = slice_split (λ unit. unit == 47) name

-- none of the characters that an unqualified name may not have (JVM Specification 4.2.2); the slash stands between the parts
abbrev pub is_name_unit : ℕ → Bool
is_name_unit unit = not (list_any (λ other. unit == other) (codes ".;["))

-- a part is an unqualified name: it has a unit at least
abbrev pub is_part : List ℕ → Bool
is_part [] = false
is_part (unit ∷ units) = list_all is_name_unit (unit ∷ units)

-- unqualified names, with a slash between each two
abbrev pub is_binary_name : List ℕ → Bool
is_binary_name name = list_all is_part (parts_of name)
