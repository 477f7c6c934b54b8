-- The entries of the constant pool (JVM Specification 4.4).
use Rattle.std.specs.Prelude.{◌≡◌, length, ℕ, zero, suc, ◌+◌, List, [], ◌∷◌, Bool, true, false, ◌==◌, ◌||◌, nat_le, ◌-◌}
use Rattle.std.specs.Int.{w32, w64, cast_signed}
use Rattle.mvm_base.specs.ModifiedUtf8.{AreUnits, spelled_all}
use Rattle.mvm_layout.specs.Format.{Format, bytes, number, given, followed, mapped, choose, refused, converted, passing}
use Rattle.mvm_layout.specs.Text.{decoded_text}
use Rattle.mvm_layout.specs.declared.fault.ClassFault.{ClassFault}
use Rattle.mvm_layout.specs.declared.fault.ClassFault.TheVariants.{Pool}
use Rattle.mvm_layout.specs.declared.parts.Item.{Item}
use Rattle.mvm_layout.specs.declared.parts.Item.TheVariants.{Utf8, Integer, Float, Long, Double, Upper, Class, Str, Fieldref, Methodref, InterfaceMethodref, NameAndType, MethodHandle, MethodType, InvokeDynamic}

abbrev pub second : {A B : Type 0} → A × B → B
second x = x.1

-- so many bytes, which are the modified UTF-8 of the units of a text (4.4.7); else the fault
abbrev pub modified_utf8 : ClassFault → ℕ → Format (List ℕ)
modified_utf8 fault n = record {
  read = (converted decoded_text (λ x. fault) (bytes n)).read;
  spells = λ units at text. (length text ≡ n) × AreUnits units × (text ≡ spelled_all units);
}

-- the length of a text in bytes, and its modified UTF-8
unfoldable pub text : ℕ → Format (List ℕ)
text index = mapped second (followed (number 2) (modified_utf8 (Pool index)))

-- an index of another entry
abbrev pub index_of : (ℕ → Item) → Format Item
index_of f = mapped f (number 2)

-- two indices
abbrev pub indices_of : (ℕ → ℕ → Item) → Format Item
indices_of f = mapped (λ x. f x.0 x.1) (followed (number 2) (λ first. number 2))

-- the numbers, by tag
unfoldable pub constant : ℕ → Format Item
constant tag =
    choose (tag == 3) (mapped (λ n. Integer (cast_signed w32 n)) (number 4)) (
    choose (tag == 4) (mapped Float (number 4)) (
    choose (tag == 5) (mapped (λ n. Long (cast_signed w64 n)) (number 8)) (mapped Double (number 8))))

-- what leads to other entries, by tag
unfoldable pub reference : ℕ → ℕ → Format Item
reference index tag =
    choose (tag == 7) (index_of Class) (
    choose (tag == 8) (index_of Str) (
    choose (tag == 9) (indices_of Fieldref) (
    choose (tag == 10) (indices_of Methodref) (
    choose (tag == 11) (indices_of InterfaceMethodref) (
    choose (tag == 12) (indices_of NameAndType) (
    choose (tag == 15) (mapped (λ x. MethodHandle x.0 x.1) (followed (number 1) (λ kind. number 2))) (
    choose (tag == 16) (index_of MethodType) (
    choose (tag == 18) (indices_of InvokeDynamic) (refused (Pool index))))))))))

-- a long or a double, which takes two indices
abbrev pub is_wide : ℕ → Bool
is_wide tag = tag == 5 || tag == 6

-- What stands behind the tag of the entry of an index. A long or double can't stand at the last index.
unfoldable pub tagged : ℕ → Bool → ℕ → Format Item
tagged index is_last tag =
    choose (tag == 1) (mapped Utf8 (text index)) (
    choose (is_wide tag) (choose is_last (refused (Pool index)) (constant tag)) (
    choose (tag == 3 || tag == 4) (constant tag) (reference index tag)))

-- the entry of an index, which may be the last
unfoldable pub item : ℕ → Bool → Format Item
item index is_last = mapped second (followed (number 1) (tagged index is_last))

abbrev pub takes_two : Item → Bool
takes_two (Long n) = true
takes_two (Double n) = true
takes_two _ = false

-- the entry of an index; behind a long or a double it has none of its own, and no bytes
abbrev pub entry : Bool → ℕ → Bool → Format Item
entry true index is_last = given Upper
entry false index is_last = item index is_last

-- the entries from an index on, so many, of which the first may be the upper one of a long or a double
abbrev pub items : Bool → ℕ → ℕ → Format (List Item)
items is_upper index zero = given []
items is_upper index (suc n) = mapped (λ x. x.0 ∷ x.1) (followed (entry is_upper index (n == 0)) (λ x. items (takes_two x) (index + 1) n))

-- a count, which is one more than there are indices, and the entries from index 1 on
unfoldable pub pool : Format (List Item)
pool = mapped second (followed (passing (nat_le 1) (λ count. Pool 0) (number 2)) (λ count. items false 1 (count - 1)))
