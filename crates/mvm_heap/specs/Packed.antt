-- How objects stand packed in the words of a region: two header words, and the contents behind them.
--
--     word 0    class, 32 bits            number of places, 32 bits
--     word 1    sort, 4 bits    owner, 7 bits (0: none)    count, 33 bits
--     word 2 .. the contents, each place in 8, 16, 32 or 64 bits, none of them across two words
use Rattle.std.specs.Prelude.{◌≡◌, ◌≤◌, ◌<◌, ◌==◌, ℕ, zero, suc, ◌+◌, ◌*◌, ◌/◌, ◌%◌, ◌^◌, List, [], ◌∷◌, length, map, slice_index_or, slice_set, if◌then◌else◌, Option, Some, None}
use Rattle.std.specs.List.{range_with_len}
use Rattle.mvm_region.specs.declared.monitor.Monitor.{Monitor}
use Rattle.mvm_heap.specs.declared.kind.ItemKind.TheVariants as item
use Rattle.mvm_heap.specs.declared.kind.ItemKind.{ItemKind}
use Rattle.mvm_heap.specs.declared.kind.ObjectKind.{ObjectKind}
use Rattle.mvm_heap.specs.declared.kind.ObjectKind.TheVariants.{Object, Array, Text}
use Rattle.mvm_heap.specs.Objects as seen
use Rattle.mvm_heap.specs.Sorts.{words_needed, kept}
use Rattle.mvm_heap.specs.Digits.{item_at, replaced}

abbrev pub word_at : List ℕ → ℕ → ℕ
word_at ws at = slice_index_or ws at 0

-- ---- sorts

abbrev pub item_number : ItemKind → ℕ
item_number item.Boolean = 1
item_number item.Byte = 2
item_number item.Char = 3
item_number item.Short = 4
item_number item.Int = 5
item_number item.Long = 6
item_number item.Ref = 7

abbrev pub sort_number : ObjectKind → ℕ
sort_number Object = 0
sort_number (Array kind) = item_number kind
sort_number Text = 8

unfoldable pub sort_numbered : ℕ → ObjectKind
sort_numbered n =
    if n == 0 then Object else if n == 1 then Array item.Boolean else if n == 2 then Array item.Byte else
    if n == 3 then Array item.Char else if n == 4 then Array item.Short else if n == 5 then Array item.Int else
    if n == 6 then Array item.Long else if n == 7 then Array item.Ref else Text

-- how many bits a place takes, and how many places a word has
abbrev pub item_bits : ItemKind → ℕ
item_bits item.Boolean = 8
item_bits item.Byte = 8
item_bits item.Char = 16
item_bits item.Short = 16
item_bits item.Int = 32
item_bits item.Long = 64
item_bits item.Ref = 32

unfoldable pub bits : ObjectKind → ℕ
bits Object = 64
bits (Array kind) = item_bits kind
bits Text = 16

abbrev pub items_in_word : ItemKind → ℕ
items_in_word item.Boolean = 8
items_in_word item.Byte = 8
items_in_word item.Char = 4
items_in_word item.Short = 4
items_in_word item.Int = 2
items_in_word item.Long = 1
items_in_word item.Ref = 2

unfoldable pub in_word : ObjectKind → ℕ
in_word Object = 1
in_word (Array kind) = items_in_word kind
in_word Text = 4

-- ---- headers

abbrev pub class_in : List ℕ → ℕ → ℕ
class_in ws at = word_at ws at % 2 ^ 32

abbrev pub length_in : List ℕ → ℕ → ℕ
length_in ws at = word_at ws at / 2 ^ 32

abbrev pub sort_in : List ℕ → ℕ → ObjectKind
sort_in ws at = sort_numbered (word_at ws (at + 1) % 16)

abbrev pub owner_numbered : ℕ → Option ℕ
owner_numbered zero = None
owner_numbered (suc n) = Some n

abbrev pub owner_number : Option ℕ → ℕ
owner_number None = 0
owner_number (Some n) = n + 1

abbrev pub monitor_in : List ℕ → ℕ → Monitor
monitor_in ws at = record { owner = owner_numbered (word_at ws (at + 1) / 16 % 128); count = word_at ws (at + 1) / 2048 }

-- ---- contents

-- the number at a place
unfoldable pub number_in : List ℕ → ℕ → ObjectKind → ℕ → ℕ
number_in ws at sort place = item_at (bits sort) (place % in_word sort * bits sort) (word_at ws (at + 2 + place / in_word sort))

unfoldable pub contents_in : List ℕ → ℕ → List ℕ
contents_in ws at = map (number_in ws at (sort_in ws at)) (range_with_len 0 (length_in ws at))

abbrev pub object_in : List ℕ → ℕ → seen.Object
object_in ws at = record { sort = sort_in ws at; class = class_in ws at; contents = contents_in ws at }

abbrev pub words_in : List ℕ → ℕ → ℕ
words_in ws at = words_needed (sort_in ws at) (length_in ws at)

-- the words with a number in a place of the object that begins there
unfoldable pub with_number : List ℕ → ℕ → ObjectKind → ℕ → ℕ → List ℕ
with_number ws at sort place v =
    slice_set ws (at + 2 + place / in_word sort) (replaced (bits sort) (place % in_word sort * bits sort) (kept sort v) (word_at ws (at + 2 + place / in_word sort)))

-- ---- all objects

-- the objects follow one another, from one place to another
abbrev pub Laid : List ℕ → ℕ → List ℕ → ℕ → Type 0
Laid ws from [] to = from ≡ to
Laid ws from (at ∷ directory) to = (at ≡ from) × Laid ws (from + words_in ws at) directory to

unfoldable pub objects_in : List ℕ → List ℕ → List seen.Object
objects_in ws directory = map (object_in ws) directory

unfoldable pub monitors_in : List ℕ → List ℕ → List Monitor
monitors_in ws directory = map (monitor_in ws) directory

-- the objects fill the carved words of a region of fewer than 2 ^ 27 words
pub record IsPacked (ws : List ℕ) (carved : ℕ) (directory : List ℕ) : Type 0 where
  pub laid : Laid ws 0 directory carved
  pub within : carved ≤ length ws
  pub small : length ws < 2 ^ 27

-- what a store keeps: the same, and the directory has places for all objects that the region can hold
pub record IsStored (ws : List ℕ) (carved : ℕ) (directory : List ℕ) (places : ℕ) : Type 0 where
  pub packed : IsPacked ws carved directory
  pub room : length ws ≤ 2 * places + 1
