-- The threads of a task by names, and the rows that they stand in.
use native.Mathlib.Omega.{arith}
use Rattle.std.proofs.Common.{◌≡◌, ◌≤◌, ◌<◌, refl, ◌∙◌, ap}
use Rattle.std.proofs.lemmas.Option.{slice_get-map}
use Rattle.std.specs.Prelude.{ℕ, zero, suc, List, [], ◌∷◌, map, take, false, Some, None, slice_get}
use Rattle.std.specs.Option.{option_map}
use Rattle.std.specs.List.{list_all}
use Rattle.mvm_isolate.specs.Numbered.{Numbered}
use Rattle.mvm_object.specs.Coming.{doing_named}
use Rattle.mvm_object.specs.declared.state.ThreadState.{ThreadState}
use Rattle.mvm_object.specs.declared.state.ThreadState.TheVariants as state
use Rattle.mvm_thread.specs.State.{has_ended, is_ended}
use Rattle.mvm_thread.specs.Step.{all_ended}
use Rattle.mvm_interp.specs.Names.{thread_named, threads_named, is_over}
use Rattle.mvm_interp.specs.declared.row.ThreadRow.{ThreadRow}

pub get_taken : {X : Type 0} (xs : List X) (i n : ℕ) → i < n → slice_get (take n xs) i ≡ slice_get xs i
get_taken [] i zero h = refl
get_taken [] i (suc n) h = refl
get_taken (x ∷ xs) i zero h = absurd (omega (arith, h))
get_taken (x ∷ xs) zero (suc n) h = refl
get_taken (x ∷ xs) (suc i) (suc n) h = get_taken xs i n (omega (arith, h))

get_behind : {X : Type 0} (xs : List X) (i n : ℕ) → n ≤ i → slice_get (take n xs) i ≡ None
get_behind [] i zero h = refl
get_behind [] i (suc n) h = refl
get_behind (x ∷ xs) i zero h = refl
get_behind (x ∷ xs) zero (suc n) h = absurd (omega (arith, h))
get_behind (x ∷ xs) (suc i) (suc n) h = get_behind xs i n (omega (arith, h))

-- a thread of a number is that of the row
pub get_named : (n : Numbered) (count i : ℕ) (rows : List ThreadRow) → i < count → slice_get (threads_named n count rows) i ≡ option_map (thread_named n) (slice_get rows i)
get_named n count i rows h = slice_get-map (thread_named n) (take count rows) i ∙ ap (option_map (thread_named n)) (get_taken rows i count h)

pub get_past : (n : Numbered) (count i : ℕ) (rows : List ThreadRow) → count ≤ i → slice_get (threads_named n count rows) i ≡ None
get_past n count i rows h = slice_get-map (thread_named n) (take count rows) i ∙ ap (option_map (thread_named n)) (get_behind rows i count h)

-- it has ended where its row says so
pub over_is : (n : Numbered) (state : ThreadState) → has_ended (doing_named n state) ≡ is_over state
over_is n state.Ready = refl
over_is n (state.Entering object times) = refl
over_is n (state.Waiting object times) = refl
over_is n (state.Initing mirror) = refl
over_is n (state.Joining thread) = refl
over_is n (state.Sending link) = refl
over_is n (state.Receiving link) = refl
over_is n state.Asking = refl
over_is n state.Ended = refl

pub ended_named : (n : Numbered) (count i : ℕ) (rows : List ThreadRow) (row : ThreadRow) → i < count → slice_get rows i ≡ Some row → is_ended (slice_get (threads_named n count rows) i) ≡ is_over row.state
ended_named n count i rows row h e = ap is_ended (get_named n count i rows h ∙ ap (option_map (thread_named n)) e) ∙ over_is n row.state

pub ended_past : (n : Numbered) (count i : ℕ) (rows : List ThreadRow) → count ≤ i → is_ended (slice_get (threads_named n count rows) i) ≡ false
ended_past n count i rows h = ap is_ended (get_past n count i rows h)

over_all : (n : Numbered) (rows : List ThreadRow) → all_ended (map (thread_named n) rows) ≡ list_all (λ row. is_over row.state) rows
over_all n [] = refl
over_all n (row ∷ rows) = rw (over_is n row.state, over_all n rows) refl

pub over_named : (n : Numbered) (count : ℕ) (rows : List ThreadRow) → all_ended (threads_named n count rows) ≡ list_all (λ row. is_over row.state) (take count rows)
over_named n count rows = over_all n (take count rows)
