-- What the methods of String do (Java SE 8 API, java.lang.String).
use Rattle.std.specs.Prelude.{ℕ, ◌-◌, ℤ, pos, negsuc, List, length, take, drop, slice_index_or, Bool, true, false, ◌&&◌, nat_lt, nat_le, Option, Some, None, if◌then◌else◌}
use Rattle.std.specs.Int.{w32, int_wrapping_add, int_wrapping_mul}
use Rattle.std.specs.List.{fold}
use Rattle.std.specs.Str.{bytes_eq}
use Rattle.mvm_base.specs.declared.value.Word.{Word}
use Rattle.mvm_base.specs.declared.value.Word.TheVariants.{Int, Ref}
use Rattle.mvm_heap.specs.Heap.{object_at, placed, text}
use Rattle.mvm_heap.specs.Objects.{Object}
use Rattle.mvm_heap.specs.declared.kind.ObjectKind.{ObjectKind}
use Rattle.mvm_heap.specs.declared.kind.ObjectKind.TheVariants.{Text}
use Rattle.mvm_native.specs.declared.out.Out.{Out}
use Rattle.mvm_native.specs.declared.out.Out.TheVariants.{Throw}
use Rattle.mvm_native.specs.declared.out.Thrown.TheVariants.{StringIndexOutOfBoundsException}
use Rattle.mvm_native.specs.Machine.{Machine, gives, gives_number, gives_truth, made}
use Rattle.mvm_native.specs.Texts.{units_at}

-- length
unfoldable pub string_length : ℕ → Machine → Out
string_length n m = gives_number (length (units_at m.heap.objects n))

-- a place of a list of this length
abbrev pub place_in : ℤ → ℕ → Option ℕ
place_in (pos i) n = if nat_lt i n then Some i else None
place_in (negsuc i) n = None

abbrev pub unit_or_throw : Option ℕ → List ℕ → Out
unit_or_throw (Some i) units = gives_number (slice_index_or units i 0)
unit_or_throw None units = Throw StringIndexOutOfBoundsException

-- charAt
unfoldable pub char_at : ℕ → ℤ → Machine → Out
char_at n i m = unit_or_throw (place_in i (length (units_at m.heap.objects n))) (units_at m.heap.objects n)

-- where a part of a list of this length begins and ends
abbrev pub span_in : ℤ → ℤ → ℕ → Option (ℕ × ℕ)
span_in (pos a) (pos b) n = if nat_le a b && nat_le b n then Some (a, b) else None
span_in _ _ n = None

abbrev pub part_or_throw : Option (ℕ × ℕ) → List ℕ → Machine → Out × Machine
part_or_throw (Some s) units m = made (placed (text (take (s.1 - s.0) (drop s.0 units))) m.heap) m
part_or_throw None units m = (Throw StringIndexOutOfBoundsException, m)

-- substring, which is always a new text
unfoldable pub substring : ℕ → ℤ → ℤ → Machine → Out × Machine
substring n a b m = part_or_throw (span_in a b (length (units_at m.heap.objects n))) (units_at m.heap.objects n) m

abbrev pub is_text : ObjectKind → Bool
is_text Text = true
is_text _ = false

-- a text of these units
abbrev pub has_units : List Object → List ℕ → Word → Bool
has_units os units (Ref n) = is_text (object_at os n).sort && bytes_eq units (object_at os n).contents
has_units os units _ = false

-- equals: whether the other is a text of the same units
unfoldable pub string_equals : ℕ → Word → Machine → Out
string_equals n other m = gives_truth (has_units m.heap.objects (units_at m.heap.objects n) other)

abbrev pub hashed_more : ℤ → ℕ → ℤ
hashed_more h unit = int_wrapping_add w32 (int_wrapping_mul w32 (pos 31) h) (pos unit)

-- 31 times the hash of the units before, and the unit, from 0 on
unfoldable pub hashed : List ℕ → ℤ
hashed units = fold hashed_more (pos 0) units

-- hashCode
unfoldable pub hash_code : ℕ → Machine → Out
hash_code n m = gives (Int (hashed (units_at m.heap.objects n)))

-- valueOf: a new text
unfoldable pub value_of : List ℕ → Machine → Out × Machine
value_of units m = made (placed (text units) m.heap) m
