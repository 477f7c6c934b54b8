-- The texts of the constants of a class, which are interned when its initialisation begins (JVM Specification 4.7.2, 5.1, 5.5, step 6).
use denote.Ref.{Bor}
use Rattle.std.specs.Prelude.{◌≡◌, ◌<◌, ℕ, ◌+◌, ◌-◌, ◌^◌, min, List, [], ◌∷◌, length, Bool, ◌||◌, is_some, IfSome, IsSome, IsOk, if◌then◌else◌, Option, Some, None, Result, Ok, Err}
use Rattle.std.specs.BTreeMap as tree
use Rattle.std.specs.BTreeMap.{BTreeMap}
use Rattle.std.specs.Cmp.Lexicographic.{slice_cmp}
use Rattle.std.specs.Ordering.{nat_cmp}
use Rattle.std.specs.Str.{bytes_eq}
use Rattle.mvm_heap.specs.Heap.{interned, words_of}
use Rattle.mvm_heap.specs.Heap as heap
use Rattle.mvm_heap.specs.Objects.{State}
use Rattle.mvm_layout.specs.Flags.{is_static}
use Rattle.mvm_layout.specs.Pool.{entry, text}
use Rattle.mvm_layout.specs.declared.parts.Item.{Item}
use Rattle.mvm_layout.specs.declared.parts.Item.TheVariants as item
use Rattle.mvm_layout.specs.declared.parts.Member.{Member}
use Rattle.mvm_layout.specs.declared.parts.Parts.{Parts}
use Rattle.mvm_mirror.specs.Statics.{slot_of}
use Rattle.mvm_isolate.specs.Initialise.{constant_given, constants_set}
use Rattle.mvm_isolate.specs.Isolate.{Isolate}
use Rattle.mvm_isolate.specs.declared.stop.Stop.{Stop}

abbrev pub text_at : List Item → Option Item → Option (List ℕ)
text_at pool (Some (item.Str units)) = text pool units
text_at pool _ = None

abbrev pub text_by : List Item → Option ℕ → Option (List ℕ)
text_by pool (Some index) = text_at pool (entry pool index)
text_by pool None = None

-- the text of the constant of a static field, if it is a text
abbrev pub constant_text : List Item → Member → Option (List ℕ)
constant_text pool field = if is_static field.flags then text_by pool field.constant else None

abbrev pub in_front : Option (List ℕ) → List (List ℕ) → List (List ℕ)
in_front (Some units) others = units ∷ others
in_front None others = others

-- the texts of the constants of these fields, in their order
unfoldable pub constant_texts : List Item → List Member → List (List ℕ)
constant_texts pool [] = []
constant_texts pool (field ∷ fields) = in_front (constant_text pool field) (constant_texts pool fields)

-- a text of these units is interned
abbrev pub is_interned : State → List ℕ → Bool
is_interned s units = is_some (interned s.objects s.texts units)

-- how many words these texts want, where those that are known take none: each other one is made once
unfoldable pub words_wanted : (List ℕ → Bool) → List (List ℕ) → ℕ
words_wanted known [] = 0
words_wanted known (units ∷ others) =
    if known units then words_wanted known others else words_of (heap.text units) + words_wanted (λ other. bytes_eq units other || known other) others

-- how many words the constants of a class want, each text once, and those none that are interned
abbrev pub constant_words : Parts → State → ℕ
constant_words file s = words_wanted (is_interned s) (constant_texts file.pool file.fields)

-- ---- what is asked of the texts

-- a text of which the units can be counted in 32 bits
abbrev pub IsShort : List ℕ → Type 0
IsShort units = length units < 2 ^ 32

-- where a text of these units is interned, it is there
abbrev pub IsThere : State → List ℕ → Type 0
IsThere s units = IfSome (interned s.objects s.texts units) (λ n. n < length s.objects)

-- ---- counting

-- the texts that the constants before have
abbrev pub is_met : BTreeMap (Bor (List ℕ)) (Unit {0}) → List ℕ → Bool
is_met met units = is_some (tree.get_by (λ key. slice_cmp nat_cmp units key.now) met)

-- a text that was met, or that is interned
abbrev pub is_known : BTreeMap (Bor (List ℕ)) (Unit {0}) → State → List ℕ → Bool
is_known met s units = is_met met units || is_interned s units

-- the most that a sum can be
abbrev pub MOST : ℕ
MOST = 2 ^ 64 - 1

-- The words of one text more were counted, unless it was known; where there is none, none were.
pub record Counted (s : State) (old new : List ℕ → Bool) (before after : ℕ) (found : Option (List ℕ)) : Type 0 where
  pub few : after < 2 ^ 64
  pub sum : (others : List (List ℕ)) → min (after + words_wanted new others) MOST ≡ min (before + words_wanted old (in_front found others)) MOST
  pub short : IfSome found IsShort
  pub there : IfSome found (IsThere s)

-- ---- one field

-- the isolate with the constant of a static field, if it has one
abbrev pub field_set : List ℕ → Parts → Member → Isolate → Result Isolate Stop
field_set class file field s = if is_static field.flags then constant_given class file field field.constant s else Ok s

-- a field of this name and descriptor has a slot
abbrev pub HasSlot : Parts → Member → Type 0
HasSlot file field = (name desc : List ℕ) → text file.pool field.name ≡ Some name → text file.pool field.desc ≡ Some desc → IsSome (slot_of name desc file)

-- ---- all of them

-- the constants of a class can be set in an isolate with these objects
abbrev pub MayBeSet : Parts → State → Type 0
MayBeSet file h = (class : List ℕ) (s : Isolate) → s.heap ≡ h → IsOk (constants_set class file file.fields s)

-- they can't, and this is thrown
abbrev pub IsThrownAt : Parts → State → Stop → Type 0
IsThrownAt file h fault = (class : List ℕ) (s : Isolate) → s.heap ≡ h → constants_set class file file.fields s ≡ Err fault
