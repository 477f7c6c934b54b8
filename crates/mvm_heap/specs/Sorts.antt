-- How values stand in objects: by their bits.
use Rattle.std.specs.Prelude.{ℕ, zero, suc, ◌+◌, ◌*◌, ◌/◌, ◌%◌, ◌^◌, pos}
use Rattle.std.specs.Int.{w8, w16, w32, w64, cast_signed, cast_unsigned}
use Rattle.mvm_base.specs.declared.value.Word.{Word}
use Rattle.mvm_base.specs.declared.value.Word.TheVariants.{Int, Long, Ref, Null}
use Rattle.mvm_base.specs.declared.value.Kind.{Kind}
use Rattle.mvm_base.specs.declared.value.Kind.TheVariants as kind
use Rattle.mvm_heap.specs.declared.kind.ItemKind.{ItemKind}
use Rattle.mvm_heap.specs.declared.kind.ItemKind.TheVariants as item
use Rattle.mvm_heap.specs.declared.kind.ObjectKind.{ObjectKind}
use Rattle.mvm_heap.specs.declared.kind.ObjectKind.TheVariants.{Object, Array, Text}

-- a value as a number: an int and a long as their bits, null as 0, a reference as the object's number and 1
abbrev pub bits_of : Word → ℕ
bits_of (Int n) = cast_unsigned w32 n
bits_of (Long n) = cast_unsigned w64 n
bits_of (Ref n) = n + 1
bits_of Null = 0

abbrev pub reference : ℕ → Word
reference zero = Null
reference (suc n) = Ref (n % 2 ^ 32)

-- a number as a value of a kind; 0 is 0 or null of each kind
unfoldable pub word_of : Kind → ℕ → Word
word_of kind.Int n = Int (cast_signed w32 (n % 2 ^ 32))
word_of kind.Long n = Long (cast_signed w64 n)
word_of kind.Ref n = reference n

-- an item of an array as a value: bytes and shorts with their sign, booleans and chars without
unfoldable pub item_of : ItemKind → ℕ → Word
item_of item.Boolean n = Int (pos (n % 2))
item_of item.Byte n = Int (cast_signed w8 (n % 2 ^ 8))
item_of item.Char n = Int (pos (n % 2 ^ 16))
item_of item.Short n = Int (cast_signed w16 (n % 2 ^ 16))
item_of item.Int n = Int (cast_signed w32 (n % 2 ^ 32))
item_of item.Long n = Long (cast_signed w64 n)
item_of item.Ref n = reference n

-- the low bits that an item keeps
unfoldable pub kept_item : ItemKind → ℕ → ℕ
kept_item item.Boolean n = n % 2
kept_item item.Byte n = n % 2 ^ 8
kept_item item.Char n = n % 2 ^ 16
kept_item item.Short n = n % 2 ^ 16
kept_item item.Int n = n % 2 ^ 32
kept_item item.Long n = n
kept_item item.Ref n = n % 2 ^ 32

-- the low bits that a place of an object keeps
unfoldable pub kept : ObjectKind → ℕ → ℕ
kept Object n = n
kept (Array kind) n = kept_item kind n
kept Text n = n % 2 ^ 16

abbrev pub item_bytes : ItemKind → ℕ
item_bytes item.Boolean = 1
item_bytes item.Byte = 1
item_bytes item.Char = 2
item_bytes item.Short = 2
item_bytes item.Int = 4
item_bytes item.Long = 8
item_bytes item.Ref = 4

abbrev pub place_bytes : ObjectKind → ℕ
place_bytes Object = 8
place_bytes (Array kind) = item_bytes kind
place_bytes Text = 2

-- the words of an object of so many places
unfoldable pub words_needed : ObjectKind → ℕ → ℕ
words_needed sort n = 2 + (n * place_bytes sort + 7) / 8

-- what stands in an array, as a value
unfoldable pub value_of : ObjectKind → ℕ → Word
value_of (Array kind) n = item_of kind n
value_of _ n = Null
