-- Objects as contracts see them.
use Rattle.std.specs.Prelude.{ℕ, List}
use Rattle.mvm_region.specs.declared.monitor.Monitor.{Monitor}
use Rattle.mvm_heap.specs.declared.kind.ObjectKind.{ObjectKind}

-- the fields of an object, the items of an array or the units of a text, each a number of at most 64 bits
pub record Object : Type 0 where
  pub sort : ObjectKind
  pub class : ℕ
  pub contents : List ℕ

-- objects and their monitors by number, and how many words there are for objects
pub record Stored : Type 0 where
  pub objects : List Object
  pub monitors : List Monitor
  pub size : ℕ

-- the same with the numbers of the interned texts
pub record State : Type 0 where
  pub objects : List Object
  pub monitors : List Monitor
  pub texts : List ℕ
  pub size : ℕ

-- room for so many objects and interned texts, and for objects of together so many words
pub record Spare : Type 0 where
  pub objects : ℕ
  pub texts : ℕ
  pub words : ℕ

pub record Held : Type 0 where
  pub state : State
  pub spare : Spare
