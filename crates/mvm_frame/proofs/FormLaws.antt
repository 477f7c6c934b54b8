-- A shuffle of slots is the form of its instruction on the values that stand in them.
use Rattle.std.proofs.Common.{◌≡◌, List, [], ◌∷◌, true, false, refl}
use Rattle.std.specs.Prelude.{◌&&◌, IsErr, Ok}
use Rattle.mvm_base.specs.declared.value.Word.{Word}
use Rattle.mvm_frame.specs.declared.slot.Slot.{Slot}
use Rattle.mvm_base.specs.declared.value.Word.TheVariants.{Int, Long, Ref, Null}
use Rattle.mvm_frame.specs.declared.shuffle_rows.Shuffle.{Shuffle}
use Rattle.mvm_frame.specs.declared.shuffle_rows.Shuffle.TheVariants.{Pop, Pop2, Dup, DupX1, DupX2, Dup2, Dup2X1, Dup2X2, Swap}
use Rattle.mvm_frame.specs.Calls.{unless_cut, whole}
use Rattle.mvm_frame.specs.Forms.{is_long, slot_of, Follows}

by_kind : {P : Type 0} (a : Word) → (is_long a ≡ false → P) → (is_long a ≡ true → P) → P
unfolding is_long
by_kind (Int n) one two = one refl
by_kind (Long n) one two = two refl
by_kind (Ref n) one two = one refl
by_kind Null one two = one refl

whole_is : (a : Word) → whole (slot_of a) ≡ true
unfolding slot_of
whole_is (Int n) = refl
whole_is (Long n) = refl
whole_is (Ref n) = refl
whole_is Null = refl

-- where a long would be cut by none of the boundaries, and where one would cut it
kept : (a : Word) (slots : List Slot) → unless_cut (whole (slot_of a)) slots ≡ Ok slots
kept a slots = rw (whole_is a) refl

both_kept : (a b : Word) (slots : List Slot) → unless_cut (whole (slot_of a) && whole (slot_of b)) slots ≡ Ok slots
both_kept a b slots = rw (whole_is a, whole_is b) refl

torn : (a : Word) (slots : List Slot) → IsErr (unless_cut (whole (slot_of a) && false) slots)
torn a slots = rw (whole_is a) refl

follows_pop : (ws : List Word) → Follows Pop ws
follows_pop [] = refl
follows_pop (a ∷ r) = by_kind a (λ e. rw e (kept a _)) (λ e. rw e refl)

follows_pop2 : (ws : List Word) → Follows Pop2 ws
follows_pop2 [] = refl
follows_pop2 (a ∷ []) = by_kind a (λ e. rw e refl) (λ e. rw e (kept a _))
follows_pop2 (a ∷ b ∷ r) = by_kind a (λ e. by_kind b (λ f. rw (e, f) (kept b _)) (λ f. rw (e, f) refl)) (λ e. rw e (kept a _))

follows_dup : (ws : List Word) → Follows Dup ws
follows_dup [] = refl
follows_dup (a ∷ r) = by_kind a (λ e. rw (e, e) (kept a _)) (λ e. rw e refl)

follows_dup_x1 : (ws : List Word) → Follows DupX1 ws
follows_dup_x1 [] = refl
follows_dup_x1 (a ∷ []) = by_kind a (λ e. rw e refl) (λ e. rw e refl)
follows_dup_x1 (a ∷ b ∷ r) =
    by_kind a
    (λ e. by_kind b (λ f. rw (e, f, e, f) (both_kept a b _)) (λ f. rw (e, f) (torn a _)))
    (λ e. rw e refl)

follows_dup_x2 : (ws : List Word) → Follows DupX2 ws
follows_dup_x2 [] = refl
follows_dup_x2 (a ∷ []) = by_kind a (λ e. rw e refl) (λ e. rw e refl)
follows_dup_x2 (a ∷ b ∷ []) =
    by_kind a
    (λ e. by_kind b (λ f. rw (e, f) refl) (λ f. rw (e, f, e, f) (both_kept a b _)))
    (λ e. by_kind b (λ f. rw (e, f) refl) (λ f. rw (e, f) refl))
follows_dup_x2 (a ∷ b ∷ c ∷ r) =
    by_kind a
    (λ e. by_kind b
    (λ f. by_kind c (λ g. rw (e, f, g, e, f, g) (both_kept a c _)) (λ g. rw (e, f, g) (torn a _)))
    (λ f. rw (e, f, e, f) (both_kept a b _)))
    (λ e. by_kind b (λ f. rw (e, f) refl) (λ f. rw (e, f) refl))

follows_dup2 : (ws : List Word) → Follows Dup2 ws
follows_dup2 [] = refl
follows_dup2 (a ∷ []) = by_kind a (λ e. rw e refl) (λ e. rw (e, e) (kept a _))
follows_dup2 (a ∷ b ∷ r) =
    by_kind a
    (λ e. by_kind b (λ f. rw (e, f, e, f, f) (kept b _)) (λ f. rw (e, f) refl))
    (λ e. rw (e, e) (kept a _))

follows_dup2_x1 : (ws : List Word) → Follows Dup2X1 ws
follows_dup2_x1 [] = refl
follows_dup2_x1 (a ∷ []) = by_kind a (λ e. rw e refl) (λ e. rw e refl)
follows_dup2_x1 (a ∷ b ∷ []) =
    by_kind a
    (λ e. by_kind b (λ f. rw (e, f) refl) (λ f. rw (e, f) refl))
    (λ e. by_kind b (λ f. rw (e, f, e, f) (both_kept a b _)) (λ f. rw (e, f) (torn a _)))
follows_dup2_x1 (a ∷ b ∷ c ∷ r) =
    by_kind a
    (λ e. by_kind b
    (λ f. by_kind c (λ g. rw (e, f, g, e, f, g, f) (both_kept b c _)) (λ g. rw (e, f, g) (torn b _)))
    (λ f. rw (e, f) refl))
    (λ e. by_kind b (λ f. rw (e, f, e, f) (both_kept a b _)) (λ f. rw (e, f) (torn a _)))

follows_dup2_x2 : (ws : List Word) → Follows Dup2X2 ws
follows_dup2_x2 [] = refl
follows_dup2_x2 (a ∷ []) = by_kind a (λ e. rw e refl) (λ e. rw e refl)
follows_dup2_x2 (a ∷ b ∷ []) =
    by_kind a
    (λ e. by_kind b (λ f. rw (e, f) refl) (λ f. rw (e, f) refl))
    (λ e. by_kind b (λ f. rw (e, f) refl) (λ f. rw (e, f, e, f) (both_kept a b _)))
follows_dup2_x2 (a ∷ b ∷ c ∷ []) =
    by_kind a
    (λ e. by_kind b
    (λ f. by_kind c (λ g. rw (e, f, g) refl) (λ g. rw (e, f, g, e, f, g, f) (both_kept b c _)))
    (λ f. by_kind c (λ g. rw (e, f, g) refl) (λ g. rw (e, f, g) refl)))
    (λ e. by_kind b
    (λ f. by_kind c (λ g. rw (e, f, g, e, f, g) (both_kept a c _)) (λ g. rw (e, f, g) (torn a _)))
    (λ f. rw (e, f, e, f) (both_kept a b _)))
follows_dup2_x2 (a ∷ b ∷ c ∷ d ∷ r) =
    by_kind a
    (λ e. by_kind b
    (λ f. by_kind c
    (λ g. by_kind d (λ h. rw (e, f, g, h, e, f, g, h, f) (both_kept b d _)) (λ h. rw (e, f, g, h) (torn b _)))
    (λ g. rw (e, f, g, e, f, g, f) (both_kept b c _)))
    (λ f. by_kind c (λ g. rw (e, f, g) refl) (λ g. rw (e, f, g) refl)))
    (λ e. by_kind b
    (λ f. by_kind c (λ g. rw (e, f, g, e, f, g) (both_kept a c _)) (λ g. rw (e, f, g) (torn a _)))
    (λ f. rw (e, f, e, f) (both_kept a b _)))

follows_swap : (ws : List Word) → Follows Swap ws
follows_swap [] = refl
follows_swap (a ∷ []) = by_kind a (λ e. rw e refl) (λ e. rw e refl)
follows_swap (a ∷ b ∷ r) =
    by_kind a
    (λ e. by_kind b (λ f. rw (e, f, e, f) (both_kept a b _)) (λ f. rw (e, f) (torn a _)))
    (λ e. rw e refl)

pub follows : (op : Shuffle) (ws : List Word) → Follows op ws
follows Pop ws = follows_pop ws
follows Pop2 ws = follows_pop2 ws
follows Dup ws = follows_dup ws
follows DupX1 ws = follows_dup_x1 ws
follows DupX2 ws = follows_dup_x2 ws
follows Dup2 ws = follows_dup2 ws
follows Dup2X1 ws = follows_dup2_x1 ws
follows Dup2X2 ws = follows_dup2_x2 ws
follows Swap ws = follows_swap ws
