-- The values that a field of a descriptor takes (JVM Specification 2.3, 2.4, 4.3.2).
use Rattle.std.specs.Prelude.{ℕ, List, if◌then◌else◌, codes}
use Rattle.std.specs.Str.{bytes_eq}
use Rattle.mvm_base.specs.declared.descriptor.Base.{Base}
use Rattle.mvm_base.specs.declared.descriptor.FieldShape.{FieldShape}
use Rattle.mvm_base.specs.declared.value.Kind.{Kind}
use Rattle.mvm_base.specs.declared.value.Kind.TheVariants as kind
use Rattle.mvm_base.specs.declared.value.Word.{Word}
use Rattle.mvm_heap.specs.Sorts.{bits_of, item_of}
use Rattle.mvm_heap.specs.declared.kind.ItemKind.{ItemKind}
use Rattle.mvm_heap.specs.declared.kind.ItemKind.TheVariants as item

-- what a variable of this descriptor holds; what is no letter of a number is a reference
unfoldable pub items_by : List ℕ → ItemKind
items_by desc =
    if bytes_eq desc (codes "Z") then item.Boolean else (
    if bytes_eq desc (codes "B") then item.Byte else (
    if bytes_eq desc (codes "C") then item.Char else (
    if bytes_eq desc (codes "S") then item.Short else (
    if bytes_eq desc (codes "I") then item.Int else (
    if bytes_eq desc (codes "J") then item.Long else item.Ref)))))

-- as what it stands on the operand stack: the small numbers are ints there (2.11.1)
abbrev pub kind_of_items : ItemKind → Kind
kind_of_items item.Long = kind.Long
kind_of_items item.Ref = kind.Ref
kind_of_items _ = kind.Int

abbrev pub kind_by : List ℕ → Kind
kind_by desc = kind_of_items (items_by desc)

-- A value as a variable of this descriptor keeps it: of a small number the low bits, of a boolean the lowest.
unfoldable pub narrowed : List ℕ → Word → Word
narrowed desc value = item_of (items_by desc) (bits_of value)
