-- What the methods of Throwable do (Java SE 8 API, java.lang.Throwable). The message is its first field, the cause its second.
use Rattle.std.specs.Prelude.{◌≡◌, ◌≤◌, ℕ, List, length, None}
use Rattle.mvm_base.specs.declared.value.Word.{Word}
use Rattle.mvm_base.specs.declared.value.Kind.TheVariants as kind
use Rattle.mvm_heap.specs.declared.kind.ObjectKind.TheVariants as sort
use Rattle.mvm_heap.specs.Heap.{object_at, number_at, written}
use Rattle.mvm_heap.specs.Objects.{Object}
use Rattle.mvm_heap.specs.Sorts.{bits_of, word_of}
use Rattle.mvm_native.specs.declared.out.Out.{Out}
use Rattle.mvm_native.specs.declared.out.Out.TheVariants.{Value}
use Rattle.mvm_native.specs.Machine.{Machine, gives}

-- an object with two fields of the machine's own; those of its subclass stand behind them
pub record HasTwo (os : List Object) (n : ℕ) : Type 0 where
  pub sort : (object_at os n).sort ≡ sort.Object
  pub fields : 2 ≤ length (object_at os n).contents

-- the constructors: this message and this cause
unfoldable pub init_throwable : ℕ → Word → Word → Machine → Out × Machine
init_throwable n message cause m =
    (Value None, record m { heap = record m.heap { objects = written (written m.heap.objects n 0 (bits_of message)) n 1 (bits_of cause) } })

-- getMessage, getCause
abbrev pub reference_in : ℕ → ℕ → Machine → Out
reference_in n slot m = gives (word_of kind.Ref (number_at m.heap.objects n slot))
