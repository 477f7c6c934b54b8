-- What private calls promise of the index of a constant pool, which is kept as entries are appended.
use Rattle.std.specs.Prelude.{◌≡◌, ◌≤◌, ℕ, List, length, Bool, true, Option, Some, None, Result, Err, if◌then◌else◌, unwrap_or}
use Rattle.mvm_layout.specs.declared.parts.Item.{Item}
use Rattle.mvm_layout.specs.declared.parts.Item.TheVariants.{Utf8}
use Rattle.mvm_listing.specs.Constants.{is_utf8_of}
use Rattle.mvm_constants.specs.NameMap.{Rows, row}
use Rattle.mvm_constants.specs.Index.{or_else, text_at, numbers_of, key_at, is_settled, is_among, waiting_for, IsSound, IsComplete}
use Rattle.mvm_constants.specs.declared.key.Key.{Key}
use Rattle.mvm_constants.specs.declared.key.Lack.{Lack}
use Rattle.mvm_constants.specs.declared.key.Lack.TheVariants.{Missing}
use Rattle.mvm_constants.specs.declared.index.Index.{Index}

-- this is the index of the pool
pub record IsIndexOf (pool : List Item) (index : Index) : Type 0 where
  pub texts : (text : List ℕ) → row text index.texts ≡ text_at pool text
  pub numbers : index.numbers ≡ numbers_of pool
  pub sound : IsSound pool index.numbers index.keyed
  pub complete : IsComplete pool index.numbers index.keyed index.waiting

-- the number of the text of an entry that is to stand at an index; 0 for an entry of another kind
abbrev pub numbered : Rows ℕ → Item → ℕ → ℕ
numbered texts (Utf8 text) at = unwrap_or (row text texts) at
numbered texts _ at = 0

-- the one has the text of an entry at this index too, if the other has it nowhere
abbrev pub Numbers : Rows ℕ → Item → ℕ → Rows ℕ → Type 0
Numbers old item at new = (text : List ℕ) → row text new ≡ or_else (row text old) (if is_utf8_of text item then Some at else None)

abbrev pub settles : Index → Result Key Lack → ℕ → Bool
settles index key at = is_settled index.keyed index.waiting key at

-- the one knows the same texts as the other, and nothing wrong
pub record Tells (pool : List Item) (old new : Index) : Type 0 where
  pub texts : new.texts ≡ old.texts
  pub numbers : new.numbers ≡ old.numbers
  pub sound : IsSound pool old.numbers old.keyed → IsSound pool new.numbers new.keyed

-- what is settled stays settled
abbrev pub Keeps : Index → Index → Type 0
Keeps old new = (key : Result Key Lack) (at : ℕ) → settles old key at ≡ true → settles new key at ≡ true

-- the entry at an index is settled too
pub record Places (pool : List Item) (at : ℕ) (old new : Index) : Type 0 where
  pub tells : Tells pool old new
  pub keeps : Keeps old new
  pub here : settles new (key_at pool old.numbers at) at ≡ true

-- the entries at these indices are settled too
pub record PlacesEach (pool : List Item) (entries : List ℕ) (old new : Index) : Type 0 where
  pub tells : Tells pool old new
  pub keeps : Keeps old new
  pub each : (at : ℕ) → is_among at entries ≡ true → settles new (key_at pool old.numbers at) at ≡ true

-- those that wait for the entry at an index are settled, and of the others what is settled stays settled
pub record PlacesWaiting (pool : List Item) (index : ℕ) (old new : Index) : Type 0 where
  pub tells : Tells pool old new
  pub keeps : (key : Result Key Lack) (at : ℕ) → (key ≡ Err (Missing index) → ⊥) → settles old key at ≡ true → settles new key at ≡ true
  pub each : (at : ℕ) → is_among at (waiting_for index old.waiting) ≡ true → settles new (key_at pool old.numbers at) at ≡ true

abbrev pub IsIndexIf : List Item → Option Index → Type 0
IsIndexIf pool None = Unit {0}
IsIndexIf pool (Some index) = IsIndexOf pool index

-- a pool within its bounds, with its index, if there is one
pub record IsPoolOf (pool : List Item) (index : Option Index) : Type 0 where
  pub room : length pool ≤ 65534
  pub known : IsIndexIf pool index
