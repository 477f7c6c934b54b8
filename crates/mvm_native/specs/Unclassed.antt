-- Objects without their class numbers, which no native method looks at; and what a native method leaves of the objects.
use Rattle.std.specs.Prelude.{◌≡◌, ℕ, List, ◌++◌, length, map, replicate, All}
use Rattle.mvm_heap.specs.Heap.{free}
use Rattle.mvm_heap.specs.Objects.{Object, State}
use Rattle.mvm_heap.specs.declared.kind.ItemKind.TheVariants.{Char}
use Rattle.mvm_heap.specs.declared.kind.ObjectKind.{ObjectKind}
use Rattle.mvm_heap.specs.declared.kind.ObjectKind.TheVariants.{Array, Text}
use Rattle.mvm_native.specs.Machine.{Machine}

-- ---- without class numbers

abbrev pub without_class : Object → Object
without_class o = record o { class = 0 }

unfoldable pub unclassed_objects : List Object → List Object
unclassed_objects os = map without_class os

abbrev pub unclassed_state : State → State
unclassed_state s = record s { objects = unclassed_objects s.objects }

-- the same machine, its objects without their class numbers
abbrev pub unclassed : Machine → Machine
unclassed m = record m { heap = unclassed_state m.heap }

-- ---- what is left

-- what an object is: its sort and its class number
pub record Head : Type 0 where
  pub sort : ObjectKind
  pub class : ℕ

abbrev pub head_of : Object → Head
head_of o = record { sort = o.sort; class = o.class }

unfoldable pub heads_of : List Object → List Head
heads_of os = map head_of os

abbrev pub IsTextOrChars : ObjectKind → Type 0
IsTextOrChars Text = Unit {0}
IsTextOrChars (Array Char) = Unit {0}
IsTextOrChars _ = ⊥

-- what a native method makes: a text or an array of chars, whose class number is 0
pub record IsMade (head : Head) : Type 0 where
  pub sort : IsTextOrChars head.sort
  pub class : head.class ≡ 0

-- The old objects are what they were, in their order, and behind them stand those that were made, each with a free monitor.
pub record Adds (old new : State) : Type 0 where
  pub more : List Head
  pub heads : heads_of new.objects ≡ heads_of old.objects ++ more
  pub made : All IsMade more
  pub monitors : new.monitors ≡ old.monitors ++ replicate (length more) free
  pub texts : new.texts ≡ old.texts
  pub size : new.size ≡ old.size

-- So a native method leaves the heap; and the launch, the calling thread and the links stand as they stood.
pub record Keeps (old new : Machine) : Type 0 where
  pub heap : Adds old.heap new.heap
  pub launch : new.launch ≡ old.launch
  pub thread : new.thread ≡ old.thread
  pub links : new.links ≡ old.links
