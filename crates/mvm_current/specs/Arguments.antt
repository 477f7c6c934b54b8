-- The arguments of a call, as they stand on the operands of the caller (JVM Specification 2.6.1, 6.5 under invokevirtual).
use Rattle.std.specs.Prelude.{ℕ, ◌+◌, List, [], ◌∷◌, ◌++◌, length, take, drop, reverse, map, Bool, true, false, ◌&&◌, ◌==◌, nat_le, if◌then◌else◌, Option, Some, None, Result, Ok, Err, slice_get}
use Rattle.mvm_base.specs.Answers.{◌>>=◌}
use Rattle.mvm_base.specs.Descriptor.{method_of}
use Rattle.mvm_base.specs.declared.descriptor.DescFault.{DescFault}
use Rattle.mvm_base.specs.declared.descriptor.FieldShape.{FieldShape}
use Rattle.mvm_base.specs.declared.descriptor.MethodShape.{MethodShape}
use Rattle.mvm_base.specs.declared.value.Kind.{Kind}
use Rattle.mvm_base.specs.declared.value.Kind.TheVariants as kind
use Rattle.mvm_base.specs.declared.value.Word.{Word}
use Rattle.mvm_base.specs.declared.value.Word.TheVariants as word
use Rattle.mvm_frame.specs.declared.slot.Slot.{Slot}
use Rattle.mvm_frame.specs.declared.slot.Slot.TheVariants as slot
use Rattle.mvm_native.specs.declared.out.Thrown.TheVariants.{VerifyError}
use Rattle.mvm_isolate.specs.Isolate.{stopped}
use Rattle.mvm_isolate.specs.Types.{items_of}
use Rattle.mvm_isolate.specs.Values.{kind_of_items}
use Rattle.mvm_isolate.specs.declared.stop.Stop.{Stop}
use Rattle.mvm_current.specs.Values.{not_null, width}

-- ---- descriptors

abbrev pub or_verify_desc : Result MethodShape DescFault → Result MethodShape Stop
or_verify_desc (Ok shape) = Ok shape
or_verify_desc (Err fault) = stopped VerifyError

-- the parameters and the result of a descriptor
unfoldable pub shape_of : List ℕ → Result MethodShape Stop
shape_of desc = or_verify_desc (method_of desc)

-- the kind of a value of this shape
abbrev pub kind_of_shape : FieldShape → Kind
kind_of_shape shape = if shape.dims == 0 then kind_of_items (items_of (record shape { dims = 1 })) else kind.Ref

abbrev pub receiver_kinds : Bool → List Kind
receiver_kinds true = []
receiver_kinds false = kind.Ref ∷ []

-- a receiver, if there is one, and then the parameters
abbrev pub kinds_of : Bool → MethodShape → List Kind
kinds_of static shape = receiver_kinds static ++ map kind_of_shape shape.params

-- ---- slots

abbrev pub widths : List Kind → ℕ
widths [] = 0
widths (k ∷ ks) = width k + widths ks

abbrev pub an_int : Option Slot → Option Word
an_int (Some (slot.Int n)) = Some (word.Int n)
an_int _ = None

abbrev pub a_ref : Option Slot → Option Word
a_ref (Some (slot.Ref n)) = Some (word.Ref n)
a_ref (Some slot.Null) = Some word.Null
a_ref _ = None

abbrev pub a_long : Option Slot → Option Slot → Option Word
a_long (Some (slot.Long n)) (Some slot.Half) = Some (word.Long n)
a_long _ _ = None

-- the value of a kind that begins these slots; of a long the half stands behind
abbrev pub head_word : Kind → List Slot → Option Word
head_word kind.Int slots = an_int (slice_get slots 0)
head_word kind.Ref slots = a_ref (slice_get slots 0)
head_word kind.Long slots = a_long (slice_get slots 0) (slice_get slots 1)

abbrev pub with_word : Option Word → Result (List Word) Stop → Result (List Word) Stop
with_word (Some word) (Ok words) = Ok (word ∷ words)
with_word (Some word) (Err stop) = Err stop
with_word None words = stopped VerifyError

-- the values of these kinds, one behind the other
abbrev pub words_in : List Kind → List Slot → Result (List Word) Stop
words_in [] slots = Ok []
words_in (k ∷ ks) slots = with_word (head_word k slots) (words_in ks (drop (width k) slots))

-- the arguments of a call take at most so many slots (4.3.3)
abbrev pub MOST_ARGUMENT_SLOTS : ℕ
MOST_ARGUMENT_SLOTS = 255

abbrev pub are_there : List Kind → List Slot → Bool
are_there kinds slots = nat_le (widths kinds) MOST_ARGUMENT_SLOTS && nat_le (widths kinds) (length slots)

-- the arguments on top of the operands, the last of them highest
unfoldable pub arguments : List Kind → List Slot → Result (List Word) Stop
arguments kinds slots = if are_there kinds slots then words_in kinds (reverse (take (widths kinds) slots)) else stopped VerifyError

-- ---- the receiver

-- the object that the first argument refers to
abbrev pub receiver_in : List Word → Result ℕ Stop
receiver_in [] = stopped VerifyError
receiver_in (w ∷ ws) = not_null w
