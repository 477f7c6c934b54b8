-- How the interned texts are found: those of one bucket are chained, the last one first.
use Rattle.std.specs.Prelude.{◌≡◌, ◌≢◌, ◌≤◌, ◌<◌, ℕ, suc, ◌+◌, ◌*◌, ◌%◌, List, length, map, fold, slice_index_or}
use Rattle.mvm_heap.specs.declared.index.Entry.{Entry}
use Rattle.mvm_heap.specs.declared.kind.ObjectKind.TheVariants.{Text}
use Rattle.mvm_heap.specs.Objects.{Object}
use Rattle.mvm_heap.specs.Heap.{object_at}

abbrev pub hashed_more : ℕ → ℕ → ℕ
hashed_more hash unit = (hash * 65599 + unit) % 4294967291

-- a number from 0 to 4294967290 for these units
unfoldable pub hashed : List ℕ → ℕ
hashed units = fold hashed_more 0 units

abbrev pub no_entry : Entry
no_entry = record { number = 0; before = 0 }

abbrev pub entry_at : List Entry → ℕ → Entry
entry_at es k = slice_index_or es k no_entry

-- the units of the text that an entry stands for
abbrev pub units_at : List Object → List Entry → ℕ → List ℕ
units_at os es k = (object_at os (entry_at es k).number).contents

unfoldable pub bucket_at : List Object → List Entry → ℕ → ℕ → ℕ
bucket_at os es buckets k = hashed (units_at os es k) % buckets

unfoldable pub numbers : List Entry → List ℕ
numbers es = map (λ e. e.number) es

-- p is one more than the last place below n whose bucket is b, or 0 where there is none
pub record IsLast (buckets : ℕ → ℕ) (n b p : ℕ) : Type 0 where
  pub within : p ≤ n
  pub same : (q : ℕ) → p ≡ suc q → buckets q ≡ b
  pub none : (k : ℕ) → p ≤ k → k < n → buckets k ≢ b

-- Each entry stands for a text of the heap, and leads to the last one before it of the same bucket; a head leads to the last of its bucket.
pub record IsIndexed (os : List Object) (es : List Entry) (hs : List ℕ) : Type 0 where
  pub there : (k : ℕ) → k < length es → (entry_at es k).number < length os
  pub texts : (k : ℕ) → k < length es → (object_at os (entry_at es k).number).sort ≡ Text
  pub before : (k : ℕ) → k < length es → IsLast (bucket_at os es (length hs)) k (bucket_at os es (length hs) k) (entry_at es k).before
  pub heads : (b : ℕ) → b < length hs → IsLast (bucket_at os es (length hs)) (length es) b (slice_index_or hs b 0)
  pub some : 0 < length hs
  pub few : length es ≤ length os
