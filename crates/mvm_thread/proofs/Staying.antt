-- A thread that waits for what it can't attempt stays as it is.
use Rattle.std.proofs.Common.{◌≡◌, ℕ, Ok, refl, ◌⊎◌, inl, inr}
use Rattle.mvm_isolate.specs.Numbered.{Numbered}
use Rattle.mvm_object.specs.Coming.{doing_named}
use Rattle.mvm_object.specs.Going.{Context, Point, stays}
use Rattle.mvm_object.specs.declared.state.ThreadState.{ThreadState}
use Rattle.mvm_object.specs.declared.state.ThreadState.TheVariants.{Waiting, Sending, Receiving, Asking, Ended}
use Rattle.mvm_thread.specs.Attempt.{attempted}

-- it waits for a notification, for the world outside its isolate, or for nothing any more
abbrev pub IsStill : ThreadState → Type 0
IsStill state = ((object : ℕ) × (times : ℕ) × (state ≡ Waiting object times)) ⊎ (((link : ℕ) × (state ≡ Sending link)) ⊎ (((link : ℕ) × (state ≡ Receiving link)) ⊎ ((state ≡ Asking) ⊎ (state ≡ Ended))))

pub stays_still : (c : Context) (n : Numbered) (state : ThreadState) (p : Point) → IsStill state → attempted c (doing_named n state) p ≡ Ok (stays c (doing_named n state) p)
unfolding attempted
stays_still c n state p (inl (object, times, e)) = rw e refl
stays_still c n state p (inr (inl (link, e))) = rw e refl
stays_still c n state p (inr (inr (inl (link, e)))) = rw e refl
stays_still c n state p (inr (inr (inr (inl e)))) = rw e refl
stays_still c n state p (inr (inr (inr (inr e)))) = rw e refl
