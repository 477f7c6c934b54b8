-- What rows stand for stays where an isolate only grows, and a row in the place of another.
use native.Mathlib.Omega.{arith}
use Rattle.std.proofs.Common.{◌≡◌, ◌≤◌, ◌<◌, refl, ◌∙◌, ap}
use Rattle.std.proofs.Math.Seq.{take-set-lt}
use Rattle.std.proofs.lemmas.List.{map-set, map-append, take_more_set, length-map}
use Rattle.std.proofs.lemmas.List.Elements.{All-head, All-tail, All-take, All-weaker}
use Rattle.std.specs.Prelude.{ℕ, zero, suc, ◌+◌, List, [], ◌∷◌, ◌++◌, length, map, take, All, Some, None, slice_get, slice_set}
use Rattle.mvm_isolate.specs.Numbered.{Numbered}
use Rattle.mvm_isolate.specs.Sound.{Grows}
use Rattle.mvm_current.proofs.Growth.{is_class_grows, name_grows, frames_grow, keys_grow}
use Rattle.mvm_object.specs.Coming.{doing_named, IsState}
use Rattle.mvm_object.specs.Going as doing
use Rattle.mvm_object.specs.declared.state.ThreadState.{ThreadState}
use Rattle.mvm_object.specs.declared.state.ThreadState.TheVariants as state
use Rattle.mvm_thread.specs.State.{Thread}
use Rattle.mvm_interp.specs.Names.{thread_named, threads_named}
use Rattle.mvm_interp.specs.Sound.{IsRow, IsIdle}
use Rattle.mvm_interp.specs.declared.row.ThreadRow.{ThreadRow}

-- ---- where an isolate grows

pub state_grows : (old new : Numbered) (s : ThreadState) → Grows old new → IsState old s → IsState new s
state_grows old new state.Ready grows is = is
state_grows old new (state.Entering object times) grows is = is
state_grows old new (state.Waiting object times) grows is = is
state_grows old new (state.Initing mirror) grows is = is_class_grows old new mirror grows is
state_grows old new (state.Joining thread) grows is = is
state_grows old new (state.Sending link) grows is = is
state_grows old new (state.Receiving link) grows is = is
state_grows old new state.Asking grows is = is
state_grows old new state.Ended grows is = is

pub doing_grows : (old new : Numbered) (s : ThreadState) → Grows old new → IsState old s → doing_named new s ≡ doing_named old s
doing_grows old new state.Ready grows is = refl
doing_grows old new (state.Entering object times) grows is = refl
doing_grows old new (state.Waiting object times) grows is = refl
doing_grows old new (state.Initing mirror) grows is = ap doing.initing (name_grows old new mirror grows is)
doing_grows old new (state.Joining thread) grows is = refl
doing_grows old new (state.Sending link) grows is = refl
doing_grows old new (state.Receiving link) grows is = refl
doing_grows old new state.Asking grows is = refl
doing_grows old new state.Ended grows is = refl

pub row_grows : (old new : Numbered) (row : ThreadRow) → Grows old new → IsRow old row → IsRow new row
row_grows old new row grows is = record {
  keys = keys_grow old new row.stack grows is.keys;
  limits = rw grows.launch is.limits;
  state = state_grows old new row.state grows is.state;
}

pub thread_grows : (old new : Numbered) (row : ThreadRow) → Grows old new → IsRow old row → thread_named new row ≡ thread_named old row
thread_grows old new row grows is = rw (doing_grows old new row.state grows is.state, frames_grow old new row.stack grows is.keys) refl

list_grows : (old new : Numbered) (rows : List ThreadRow) → Grows old new → All (IsRow old) rows → map (thread_named new) rows ≡ map (thread_named old) rows
list_grows old new [] grows all = refl
list_grows old new (row ∷ rows) grows all =
    let one = thread_grows old new row grows (All-head (IsRow old) row rows all) in
    let others = list_grows old new rows grows (All-tail (IsRow old) row rows all) in
    ap (λ (t : Thread). t ∷ map (thread_named new) rows) one ∙ ap (λ (ts : List Thread). thread_named old row ∷ ts) others

pub threads_grow : (old new : Numbered) (count : ℕ) (rows : List ThreadRow) → Grows old new → All (IsRow old) rows → threads_named new count rows ≡ threads_named old count rows
threads_grow old new count rows grows all = list_grows old new (take count rows) grows (All-take (IsRow old) count rows all)

pub rows_grow : (old new : Numbered) (rows : List ThreadRow) → Grows old new → All (IsRow old) rows → All (IsRow new) rows
rows_grow old new rows grows all = All-weaker (IsRow old) (IsRow new) (λ row is. row_grows old new row grows is) rows all

pub idle_grows : (old new : Numbered) (rows : List ThreadRow) → Grows old new → All (IsIdle old) rows → All (IsIdle new) rows
idle_grows old new rows grows all = All-weaker (IsIdle old) (IsIdle new) (λ row is. rw grows.launch is) rows all

-- ---- a row in the place of another

pub set_named : (n : Numbered) (count i : ℕ) (rows : List ThreadRow) (row : ThreadRow) → i < count → threads_named n count (slice_set rows i row) ≡ slice_set (threads_named n count rows) i (thread_named n row)
set_named n count i rows row h = ap (map (thread_named n)) (take-set-lt count rows i row h) ∙ map-set (thread_named n) (take count rows) i row

pub more_named : (n : Numbered) (count : ℕ) (rows : List ThreadRow) (row : ThreadRow) → count < length rows → threads_named n (count + 1) (slice_set rows count row) ≡ threads_named n count rows ++ thread_named n row ∷ []
more_named n count rows row h = ap (map (thread_named n)) (take_more_set rows count row h) ∙ map-append (thread_named n) (take count rows) (row ∷ [])

length_take : {X : Type 0} (count : ℕ) (xs : List X) → count ≤ length xs → length (take count xs) ≡ count
length_take zero [] h = refl
length_take (suc n) [] h = absurd (omega (arith, h))
length_take zero (x ∷ xs) h = refl
length_take (suc n) (x ∷ xs) h = ap suc (length_take n xs (omega (arith, h)))

pub length_named : (n : Numbered) (count : ℕ) (rows : List ThreadRow) → count ≤ length rows → length (threads_named n count rows) ≡ count
length_named n count rows h = length-map (take count rows) (thread_named n) ∙ length_take count rows h

pub taken_length : (count : ℕ) (rows : List ThreadRow) → count ≤ length rows → length (take count rows) ≡ count
taken_length count rows h = length_take count rows h

pub all_at : (P : ThreadRow → Type 0) (i : ℕ) (rows : List ThreadRow) (row : ThreadRow) → slice_get rows i ≡ Some row → All P rows → P row
all_at P i [] row e all = absurd (let k : None ≡ Some row = e in cc)
all_at P zero (x ∷ xs) row e all = let s : x ≡ row = cc in rw (← s) (All-head P x xs all)
all_at P (suc i) (x ∷ xs) row e all = all_at P i xs row e (All-tail P x xs all)
