-- The arguments of a native method: the receiver, if it has one, and then those of its descriptor.
use Rattle.std.specs.Prelude.{ℕ, ℤ, pos, List, slice_index_or}
use Rattle.mvm_base.specs.declared.value.Word.{Word}
use Rattle.mvm_base.specs.declared.value.Word.TheVariants.{Int, Long, Ref, Null}

-- the argument at a place; behind the last stands null
abbrev pub word_arg : List Word → ℕ → Word
word_arg args place = slice_index_or args place Null

-- the number of the object that is referred to, 0 where none is
abbrev pub ref_of : Word → ℕ
ref_of (Ref n) = n
ref_of _ = 0

abbrev pub ref_arg : List Word → ℕ → ℕ
ref_arg args place = ref_of (word_arg args place)

-- an int, 0 where it is none
abbrev pub int_of : Word → ℤ
int_of (Int n) = n
int_of _ = pos 0

abbrev pub int_arg : List Word → ℕ → ℤ
int_arg args place = int_of (word_arg args place)

-- a long, 0 where it is none
abbrev pub long_of : Word → ℤ
long_of (Long n) = n
long_of _ = pos 0
