-- The forms of `pop` to `swap` (JVM Specification 6.5), on values in place of slots, the top one first. A long is a value of
-- category 2, any other one of category 1 (2.11.1).
use Rattle.std.specs.Prelude.{◌≡◌, MatchOption, IsErr, Ok, List, [], ◌∷◌, Bool, true, false, Option, Some, None}
use Rattle.mvm_frame.specs.Calls.{shuffled}
use Rattle.mvm_base.specs.declared.value.Word.{Word}
use Rattle.mvm_base.specs.declared.value.Word.TheVariants as word
use Rattle.mvm_frame.specs.declared.slot.Slot.{Slot}
use Rattle.mvm_frame.specs.declared.slot.Slot.TheVariants.{Half, Int, Long, Ref, Null}
use Rattle.mvm_frame.specs.declared.shuffle_rows.Shuffle.{Shuffle}
use Rattle.mvm_frame.specs.declared.shuffle_rows.Shuffle.TheVariants.{Pop, Pop2, Dup, DupX1, DupX2, Dup2, Dup2X1, Dup2X2, Swap}

unfoldable pub is_long : Word → Bool
is_long (word.Long n) = true
is_long _ = false

-- which of the values are longs
abbrev pub longs_of : List Word → List Bool
longs_of [] = []
longs_of (w ∷ ws) = is_long w ∷ longs_of ws

unfoldable pub slot_of : Word → Slot
slot_of (word.Int n) = Int n
slot_of (word.Long n) = Long n
slot_of (word.Ref n) = Ref n
slot_of word.Null = Null

-- the slots of values, a long in two of them
abbrev pub slots_by : List Bool → List Word → List Slot
slots_by [] ws = []
slots_by (long ∷ longs) [] = []
slots_by (false ∷ longs) (w ∷ ws) = slot_of w ∷ slots_by longs ws
slots_by (true ∷ longs) (w ∷ ws) = Half ∷ slot_of w ∷ slots_by longs ws

abbrev pub slots_of : List Word → List Slot
slots_of ws = slots_by (longs_of ws) ws

-- what is left of the values, by which of them are longs
abbrev pub form : Shuffle → List Bool → List Word → Option (List Word)
form Pop (false ∷ _) (a ∷ r) = Some r
form Pop2 (false ∷ false ∷ _) (a ∷ b ∷ r) = Some r
form Pop2 (true ∷ _) (a ∷ r) = Some r
form Dup (false ∷ _) (a ∷ r) = Some (a ∷ a ∷ r)
form DupX1 (false ∷ false ∷ _) (a ∷ b ∷ r) = Some (a ∷ b ∷ a ∷ r)
form DupX2 (false ∷ false ∷ false ∷ _) (a ∷ b ∷ c ∷ r) = Some (a ∷ b ∷ c ∷ a ∷ r)
form DupX2 (false ∷ true ∷ _) (a ∷ b ∷ r) = Some (a ∷ b ∷ a ∷ r)
form Dup2 (false ∷ false ∷ _) (a ∷ b ∷ r) = Some (a ∷ b ∷ a ∷ b ∷ r)
form Dup2 (true ∷ _) (a ∷ r) = Some (a ∷ a ∷ r)
form Dup2X1 (false ∷ false ∷ false ∷ _) (a ∷ b ∷ c ∷ r) = Some (a ∷ b ∷ c ∷ a ∷ b ∷ r)
form Dup2X1 (true ∷ false ∷ _) (a ∷ b ∷ r) = Some (a ∷ b ∷ a ∷ r)
form Dup2X2 (false ∷ false ∷ false ∷ false ∷ _) (a ∷ b ∷ c ∷ d ∷ r) = Some (a ∷ b ∷ c ∷ d ∷ a ∷ b ∷ r)
form Dup2X2 (true ∷ false ∷ false ∷ _) (a ∷ b ∷ c ∷ r) = Some (a ∷ b ∷ c ∷ a ∷ r)
form Dup2X2 (false ∷ false ∷ true ∷ _) (a ∷ b ∷ c ∷ r) = Some (a ∷ b ∷ c ∷ a ∷ b ∷ r)
form Dup2X2 (true ∷ true ∷ _) (a ∷ b ∷ r) = Some (a ∷ b ∷ a ∷ r)
form Swap (false ∷ false ∷ _) (a ∷ b ∷ r) = Some (b ∷ a ∷ r)
form _ _ _ = None

-- the values that the instruction leaves; none where no form fits
abbrev pub formed : Shuffle → List Word → Option (List Word)
formed op ws = form op (longs_of ws) ws

-- the slots that the shuffle leaves are those of the values that the form leaves, and the shuffle is refused where no form fits
abbrev pub Follows : Shuffle → List Word → Type 0
Follows op ws = MatchOption (formed op ws) (IsErr (shuffled op (slots_of ws))) (λ left. shuffled op (slots_of ws) ≡ Ok (slots_of left))
