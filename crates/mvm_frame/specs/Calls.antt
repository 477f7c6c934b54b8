-- What the calls of a stack do (JVM Specification 2.6.1 and 2.6.2). A long takes two slots: among the operands a half stands
-- on its value, among the local variables behind it.
use Rattle.std.specs.Prelude.{ℕ, ◌+◌, ◌-◌, ℤ, List, [], ◌∷◌, ◌++◌, length, take, drop, reverse, replicate, Bool, true, false, nat_lt, nat_le, ◌&&◌, if◌then◌else◌, Option, Some, None, Result, Ok, Err, slice_get, slice_set}
use Rattle.mvm_base.specs.Answers.{◌>>=◌}
use Rattle.mvm_base.specs.declared.value.Kind.{Kind}
use Rattle.mvm_base.specs.declared.value.Kind.TheVariants as kind
use Rattle.mvm_base.specs.declared.value.Word.{Word}
use Rattle.mvm_base.specs.declared.value.Word.TheVariants as word
use Rattle.mvm_frame.specs.declared.slot.Slot.{Slot}
use Rattle.mvm_frame.specs.declared.slot.Slot.TheVariants.{Unset, Half, Int, Long, Ref, Null}
use Rattle.mvm_frame.specs.declared.key.FrameKey.{FrameKey}
use Rattle.mvm_frame.specs.declared.place.Place.{Place}
use Rattle.mvm_frame.specs.declared.refused.Refused.{Refused}
use Rattle.mvm_frame.specs.declared.refused.Refused.TheVariants as refused
use Rattle.mvm_frame.specs.declared.shuffle_rows.Shuffle.{Shuffle}
use Rattle.mvm_frame.specs.declared.shuffle_rows.Shuffle.TheVariants.{Pop, Pop2, Dup, DupX1, DupX2, Dup2, Dup2X1, Dup2X2, Swap}
use Rattle.mvm_frame.specs.Parts.{Operands, Frame, Below, StackParts, frames_of, stack_with}

abbrev pub refusal_by : Option FrameKey → Refused → Refused
refusal_by None fault = refused.NoFrame
refusal_by (Some key) fault = fault

-- without a frame every call is refused for that
unfoldable pub refusal : Below → Refused → Refused
refusal below fault = refusal_by below.key fault

abbrev pub framed_by : {A : Type 0} → Option FrameKey → Result A Refused → Result A Refused
framed_by None r = Err refused.NoFrame
framed_by (Some key) r = r

unfoldable pub framed : {A : Type 0} → Below → Result A Refused → Result A Refused
framed below r = framed_by below.key r

-- ---- operands

abbrev pub put_one : Slot → Operands → Result Operands Refused
put_one s o = if nat_lt (length o.slots) o.depth then Ok (record o { slots = s ∷ o.slots }) else Err refused.Overflow

abbrev pub put_long : ℤ → Operands → Result Operands Refused
put_long n o = if nat_lt (length o.slots + 1) o.depth then Ok (record o { slots = Half ∷ Long n ∷ o.slots }) else Err refused.Overflow

unfoldable pub push : Word → Operands → Result Operands Refused
push (word.Int n) o = put_one (Int n) o
push (word.Long n) o = put_long n o
push (word.Ref n) o = put_one (Ref n) o
push word.Null o = put_one Null o

abbrev pub an_int : Slot → Result Word Refused
an_int (Int n) = Ok (word.Int n)
an_int _ = Err refused.Kind

abbrev pub a_ref : Slot → Result Word Refused
a_ref (Ref n) = Ok (word.Ref n)
a_ref Null = Ok word.Null
a_ref _ = Err refused.Kind

abbrev pub a_long : Slot → Slot → Result Word Refused
a_long Half (Long n) = Ok (word.Long n)
a_long _ _ = Err refused.Kind

abbrev pub pop_one : (Slot → Result Word Refused) → ℕ → List Slot → Result (Word × Operands) Refused
pop_one f depth [] = Err refused.Underflow
pop_one f depth (s ∷ slots) = f s >>= λ w. Ok (w, record { depth = depth; slots = slots })

abbrev pub pop_two : ℕ → List Slot → Result (Word × Operands) Refused
pop_two depth [] = Err refused.Underflow
pop_two depth (s ∷ []) = Err refused.Underflow
pop_two depth (s ∷ t ∷ slots) = a_long s t >>= λ w. Ok (w, record { depth = depth; slots = slots })

unfoldable pub pop : Kind → Operands → Result (Word × Operands) Refused
pop kind.Int o = pop_one an_int o.depth o.slots
pop kind.Ref o = pop_one a_ref o.depth o.slots
pop kind.Long o = pop_two o.depth o.slots

-- ---- shuffles: slots are moved, and no long is cut

abbrev pub whole : Slot → Bool
whole Half = false
whole _ = true

abbrev pub unless_cut : Bool → List Slot → Result (List Slot) Refused
unless_cut true slots = Ok slots
unless_cut false slots = Err refused.Kind

abbrev pub shuffled : Shuffle → List Slot → Result (List Slot) Refused
shuffled Pop (a ∷ r) = unless_cut (whole a) r
shuffled Pop2 (a ∷ b ∷ r) = unless_cut (whole b) r
shuffled Dup (a ∷ r) = unless_cut (whole a) (a ∷ a ∷ r)
shuffled DupX1 (a ∷ b ∷ r) = unless_cut (whole a && whole b) (a ∷ b ∷ a ∷ r)
shuffled DupX2 (a ∷ b ∷ c ∷ r) = unless_cut (whole a && whole c) (a ∷ b ∷ c ∷ a ∷ r)
shuffled Dup2 (a ∷ b ∷ r) = unless_cut (whole b) (a ∷ b ∷ a ∷ b ∷ r)
shuffled Dup2X1 (a ∷ b ∷ c ∷ r) = unless_cut (whole b && whole c) (a ∷ b ∷ c ∷ a ∷ b ∷ r)
shuffled Dup2X2 (a ∷ b ∷ c ∷ d ∷ r) = unless_cut (whole b && whole d) (a ∷ b ∷ c ∷ d ∷ a ∷ b ∷ r)
shuffled Swap (a ∷ b ∷ r) = unless_cut (whole a && whole b) (b ∷ a ∷ r)
shuffled _ slots = Err refused.Underflow

abbrev pub grown : Shuffle → ℕ
grown Pop = 0
grown Pop2 = 0
grown Dup = 1
grown DupX1 = 1
grown DupX2 = 1
grown Dup2 = 2
grown Dup2X1 = 2
grown Dup2X2 = 2
grown Swap = 0

-- how many slots have to be there
abbrev pub needed : Shuffle → ℕ
needed Pop = 1
needed Dup = 1
needed Pop2 = 2
needed DupX1 = 2
needed Dup2 = 2
needed Swap = 2
needed DupX2 = 3
needed Dup2X1 = 3
needed Dup2X2 = 4

unfoldable pub shuffle_slots : Shuffle → Operands → Result Operands Refused
shuffle_slots op o = if nat_lt o.depth (length o.slots + grown op) then Err refused.Overflow else (shuffled op o.slots >>= λ slots. Ok (record o { slots = slots }))

-- ---- local variables

abbrev pub loaded_int : Option Slot → Result Word Refused
loaded_int (Some (Int n)) = Ok (word.Int n)
loaded_int _ = Err refused.Kind

abbrev pub loaded_long : Option Slot → Result Word Refused
loaded_long (Some (Long n)) = Ok (word.Long n)
loaded_long _ = Err refused.Kind

abbrev pub loaded_ref : Option Slot → Result Word Refused
loaded_ref (Some (Ref n)) = Ok (word.Ref n)
loaded_ref (Some Null) = Ok word.Null
loaded_ref _ = Err refused.Kind

unfoldable pub loaded : Kind → Option Slot → Result Word Refused
loaded kind.Int slot = loaded_int slot
loaded kind.Long slot = loaded_long slot
loaded kind.Ref slot = loaded_ref slot

-- the other half of what stood there is unset
abbrev pub freed_by : Option Slot → ℕ → List Slot → List Slot
freed_by (Some Half) n locals = slice_set locals (n - 1) Unset
freed_by (Some (Long value)) n locals = if nat_lt (n + 1) (length locals) then slice_set locals (n + 1) Unset else locals
freed_by _ n locals = locals

unfoldable pub freed : ℕ → List Slot → List Slot
freed n locals = freed_by (slice_get locals n) n locals

abbrev pub store_one : ℕ → Slot → List Slot → Result (List Slot) Refused
store_one n s locals = if nat_lt n (length locals) then Ok (slice_set (freed n locals) n s) else Err refused.Kind

abbrev pub store_long : ℕ → ℤ → List Slot → Result (List Slot) Refused
store_long n value locals = if nat_lt (n + 1) (length locals) then Ok (slice_set (slice_set (freed (n + 1) (freed n locals)) n (Long value)) (n + 1) Half) else Err refused.Kind

unfoldable pub store : ℕ → Word → List Slot → Result (List Slot) Refused
store n (word.Int value) locals = store_one n (Int value) locals
store n (word.Long value) locals = store_long n value locals
store n (word.Ref value) locals = store_one n (Ref value) locals
store n word.Null locals = store_one n Null locals

-- ---- frames

-- the stack without so many operands on top
abbrev pub without : ℕ → StackParts → StackParts
without n s = record s { operands = record s.operands { slots = drop n s.operands.slots } }

-- how many words a frame takes, and how many so many frames take
abbrev pub reach : Frame → ℕ
reach f = f.operands.depth + length f.locals

abbrev pub reached : List Frame → ℕ
reached [] = 0
reached (f ∷ fs) = reach f + reached fs

abbrev pub fits : ℕ → ℕ → StackParts → Bool
fits locals depth s = nat_lt (length (frames_of s)) s.rest.below.most && nat_le (reached (frames_of s) + locals + depth) s.rest.below.words

-- a frame whose first local variables are the operands on top of the one below it, the lowest of them first
abbrev pub fresh : FrameKey → ℕ → ℕ → ℕ → List Slot → Frame
fresh key locals depth n slots = record {
  key = key;
  pc = 0;
  locals = reverse (take n slots) ++ replicate (locals - n) Unset;
  operands = record { depth = depth; slots = [] };
}

-- a frame whose local variables are all unset
abbrev pub unset_frame : FrameKey → ℕ → ℕ → Frame
unset_frame key locals depth = record { key = key; pc = 0; locals = replicate locals Unset; operands = record { depth = depth; slots = [] } }

abbrev pub with_frame : FrameKey → ℕ → ℕ → ℕ → StackParts → StackParts
with_frame key locals depth n s = stack_with (fresh key locals depth n s.operands.slots ∷ frames_of (without n s)) s.rest.below.most s.rest.below.words

unfoldable pub enter : FrameKey → ℕ → ℕ → ℕ → StackParts → Result StackParts Refused
enter key locals depth n s = if fits locals depth s then Ok (with_frame key locals depth n s) else Err refused.Full

-- what a frame runs, and its pc
abbrev pub place_of : Frame → Place
place_of f = record { key = f.key; pc = f.pc }

-- how many more operands fit into the nearest frame
abbrev pub room_of : List Frame → Option ℕ
room_of [] = None
room_of (f ∷ fs) = Some (f.operands.depth - length f.operands.slots)
