-- What the calls of a heap do.
use Rattle.std.specs.Prelude.{◌≡◌, ◌≤◌, ℕ, ◌+◌, List, [], ◌∷◌, ◌++◌, length, replicate, slice_set, slice_index_or, if◌then◌else◌, nat_lt, Option, Some, None, Result, Ok, Err}
use Rattle.std.specs.Str.{bytes_eq}
use Rattle.mvm_region.specs.declared.monitor.Monitor.{Monitor}
use Rattle.mvm_base.specs.declared.value.Word.{Word}
use Rattle.mvm_heap.specs.declared.kind.ObjectKind.{ObjectKind}
use Rattle.mvm_heap.specs.declared.kind.ObjectKind.TheVariants.{Text, Array}
use Rattle.mvm_heap.specs.declared.kind.AllocFault.{AllocFault}
use Rattle.mvm_heap.specs.declared.kind.AllocFault.TheVariants.{Full, OutOfMemory}
use Rattle.mvm_heap.specs.Objects.{Object, State, Spare}
use Rattle.mvm_heap.specs.Sorts.{kept, words_needed, value_of}

-- ---- looking

-- what stands for an object that is not there
abbrev pub nothing : Object
nothing = record { sort = Text; class = 0; contents = [] }

abbrev pub object_at : List Object → ℕ → Object
object_at os n = slice_index_or os n nothing

-- the number at a place of an object
abbrev pub number_at : List Object → ℕ → ℕ → ℕ
number_at os n place = slice_index_or (object_at os n).contents place 0

-- an item of an array
abbrev pub item_at : List Object → ℕ → ℕ → Word
item_at os n place = value_of (object_at os n).sort (number_at os n place)

abbrev pub IsArray : ObjectKind → Type 0
IsArray (Array kind) = Unit {0}
IsArray _ = ⊥

abbrev pub free : Monitor
free = record { owner = None; count = 0 }

-- ---- words

abbrev pub words_of : Object → ℕ
words_of o = words_needed o.sort (length o.contents)

-- the words of all objects
unfoldable pub words : List Object → ℕ
words [] = 0
words (o ∷ os) = words_of o + words os

-- ---- writing

abbrev pub put : Object → ℕ → ℕ → Object
put o place n = record o { contents = slice_set o.contents place (kept o.sort n) }

-- one number changed
unfoldable pub written : List Object → ℕ → ℕ → ℕ → List Object
written os n place v = slice_set os n (put (object_at os n) place v)

-- ---- allocating

abbrev pub zeros : ObjectKind → ℕ → ℕ → Object
zeros sort class n = record { sort = sort; class = class; contents = replicate n 0 }

abbrev pub text : List ℕ → Object
text units = record { sort = Text; class = 0; contents = units }

-- one object more, unless its words are missing
unfoldable pub placed : Object → State → Result (ℕ × State) AllocFault
placed o s = if nat_lt s.size (words s.objects + words_of o) then Err Full else
    Ok (length s.objects, record s { objects = s.objects ++ o ∷ []; monitors = s.monitors ++ free ∷ [] })

-- the number, unless there is one already
abbrev or_number : Option ℕ → Option ℕ → Option ℕ
or_number (Some n) other = Some n
or_number None other = other

-- the interned texts as a map from units to a number
unfoldable pub interned : List Object → List ℕ → List ℕ → Option ℕ
interned os [] units = None
interned os (t ∷ ts) units = or_number (interned os ts units) (if bytes_eq (object_at os t).contents units then Some t else None)

abbrev pub noted : Result (ℕ × State) AllocFault → Result (ℕ × State) AllocFault
noted (Ok x) = Ok (x.0, record x.1 { texts = x.1.texts ++ x.0 ∷ [] })
noted (Err fault) = Err fault

abbrev pub known_or : Option ℕ → List ℕ → State → Result (ℕ × State) AllocFault
known_or (Some n) units s = Ok (n, s)
known_or None units s = noted (placed (text units) s)

-- the one interned text of these units
unfoldable pub intern : List ℕ → State → Result (ℕ × State) AllocFault
intern units s = known_or (interned s.objects s.texts units) units s

-- ---- what a call answered

-- The number and what is left are those of the definition, or the words are missing. Refused, all is as before.
abbrev pub Allocates : Result ℕ AllocFault → Result (ℕ × State) AllocFault → State → State → Type 0
Allocates (Ok n) definition old new = definition ≡ Ok (n, new)
Allocates (Err Full) definition old new = (definition ≡ Err Full) × (new ≡ old)
Allocates (Err OutOfMemory) definition old new = new ≡ old

-- so much of the spare is taken at most: objects, interned texts, words
pub record Takes (old new : Spare) (o t w : ℕ) : Type 0 where
  pub objects : old.objects ≤ new.objects + o
  pub texts : old.texts ≤ new.texts + t
  pub words : old.words ≤ new.words + w

-- there is room for so many objects and interned texts and for so many words
pub record HasRoom (spare : Spare) (o t w : ℕ) : Type 0 where
  pub objects : o ≤ spare.objects
  pub texts : t ≤ spare.texts
  pub words : w ≤ spare.words
