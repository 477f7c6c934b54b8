-- No thread waits twice: so there is room for one more, and taking one out keeps it.
use Rattle.std.proofs.Common.{◌≡◌, ℕ, zero, suc, ◌<◌, ◌≤◌, List, [], ◌∷◌, ◌++◌, length, get_or, refl, ap, sym, subst, arith, true, false, cond, eqb, inl, inr, Some, None}
use Rattle.std.specs.Prelude.{All}
use Rattle.std.specs.List.{remove, IsDistinct, AllByRecursion, list_any}
use Rattle.std.proofs.lemmas.Bool.{eq-eqb, ne_eqb}
use Rattle.std.proofs.lemmas.Bool.Decides.{eqb_tells}
use Rattle.std.proofs.lemmas.List.{map_push, length_push, length-map, get_or-map}
use Rattle.std.proofs.lemmas.List.Elements.{All-head, All-tail, All-cons, All-push, All-nil, All-map, All-weaker}
use Rattle.std.proofs.lemmas.List.Folds.{list_any_none}
use Rattle.std.proofs.lemmas.Map.Keys.{IsDistinct-push}
use Rattle.std.proofs.lemmas.Cmp.{nat_eq_equiv}
use Rattle.std.proofs.lemmas.Map.Steps.{length-le_from_distinct_below}
use Rattle.mvm_monitor.specs.declared.waits.Waiter.{Waiter}
use Rattle.mvm_monitor.specs.Waits.{IsKept, threads_of, objects_of, woken, longest}

-- ---- one more

below_any : (xs : List ℕ) (n q : ℕ) → All (λ x. x < n) xs → list_any (eqb q) xs ≡ true → q < n
below_any [] n q a h = absurd cc
below_any (x ∷ xs) n q a h =
    elim (eqb_tells q x) as (λ t. q < n) [
      | inl e ↦ subst (λ (y : ℕ). y < n) (sym e.1) (All-head (λ (y : ℕ). y < n) x xs a)
      | inr e ↦ below_any xs n q (All-tail (λ (y : ℕ). y < n) x xs a) (rw e.0 at h)
    ]

awake_none : (ws : List Waiter) (t : ℕ) → All (λ w. w.thread ≡ t → ⊥) ws → list_any (eqb t) (threads_of ws) ≡ false
awake_none ws t a =
    list_any_none (eqb t) (threads_of ws)
    (All-map (λ (x : ℕ). eqb t x ≡ false) (λ (w : Waiter). w.thread) ws
    (All-weaker (λ (w : Waiter). w.thread ≡ t → ⊥) (λ (w : Waiter). eqb t w.thread ≡ false) (λ w h. ne_eqb t w.thread (λ e. h (sym e))) ws a))

pub kept_push : (threads : ℕ) (ws : List Waiter) (places places' : ℕ) (w : Waiter) → IsKept threads ws places → places ≤ places' → w.thread < threads → All (λ v. v.thread ≡ w.thread → ⊥) ws
    → IsKept threads (ws ++ w ∷ []) places'
kept_push threads ws places places' w k p t a = record {
  once = rw (map_push (λ (v : Waiter). v.thread) ws w) (IsDistinct-push nat_eq_equiv (threads_of ws) w.thread k.once (awake_none ws w.thread a));
  known = All-push (λ (v : Waiter). v.thread < threads) ws w k.known t;
  room = omega (arith, k.room, p);
}

pub has_room : (threads : ℕ) (ws : List Waiter) (places : ℕ) (t : ℕ) → IsKept threads ws places → t < threads → All (λ v. v.thread ≡ t → ⊥) ws → length ws < places
has_room threads ws places t k h a =
    let more : List ℕ = threads_of ws ++ t ∷ [] in
    let once : IsDistinct eqb more = IsDistinct-push nat_eq_equiv (threads_of ws) t k.once (awake_none ws t a) in
    let known : All (λ (x : ℕ). x < threads) more = All-push (λ (x : ℕ). x < threads) (threads_of ws) t (All-map (λ (x : ℕ). x < threads) (λ (w : Waiter). w.thread) ws k.known) h in
    omega (arith, length-le_from_distinct_below more threads once (λ q e. below_any more threads q known e), length_push (threads_of ws) t, length-map ws (λ (w : Waiter). w.thread), k.room)

pub kept_none : (threads places : ℕ) (ws : List Waiter) → ws ≡ [] → threads ≤ places → IsKept threads ws places
unfolding IsDistinct
kept_none threads places ws e h = rw e (record { once = tt; known = All-nil (λ (w : Waiter). w.thread < threads); room = h })

-- ---- one fewer

woken_all : (P : ℕ → Type 0) (object : ℕ) (ws : List Waiter) → AllByRecursion P (threads_of ws) → AllByRecursion P (threads_of (woken object ws))
woken_all P object [] a = a
woken_all P object (w ∷ ws) a =
    elim (eqb w.object object) as (λ b. AllByRecursion P (threads_of (cond b ws (w ∷ woken object ws)))) [ true ↦ a.1 | false ↦ (a.0, woken_all P object ws a.1) ]

woken_once : (object : ℕ) (ws : List Waiter) → IsDistinct eqb (threads_of ws) → IsDistinct eqb (threads_of (woken object ws))
unfolding IsDistinct
woken_once object [] d = d
woken_once object (w ∷ ws) d =
    elim (eqb w.object object) as (λ b. IsDistinct eqb (threads_of (cond b ws (w ∷ woken object ws)))) [
      | true ↦ d.1
      | false ↦ (woken_all (λ (y : ℕ). eqb w.thread y ≡ false) object ws d.0, woken_once object ws d.1)
    ]

woken_known : (P : Waiter → Type 0) (object : ℕ) (ws : List Waiter) → All P ws → All P (woken object ws)
woken_known P object [] a = a
woken_known P object (w ∷ ws) a =
    elim (eqb w.object object) as (λ b. All P (cond b ws (w ∷ woken object ws))) [
      | true ↦ All-tail P w ws a
      | false ↦ All-cons P w (woken object ws) (All-head P w ws a) (woken_known P object ws (All-tail P w ws a))
    ]

pub kept_woken : (threads object : ℕ) (ws : List Waiter) (places : ℕ) → IsKept threads ws places → IsKept threads (woken object ws) places
kept_woken threads object ws places k = record {
  once = woken_once object ws k.once;
  known = woken_known (λ (w : Waiter). w.thread < threads) object ws k.known;
  room = k.room;
}

-- ---- the first that waits on an object

abbrev pub NoneBefore : List Waiter → ℕ → ℕ → Type 0
NoneBefore ws object i = (k : ℕ) → k < i → get_or (objects_of ws) k 0 ≡ object → ⊥

pub first_woken : (ws : List Waiter) (object i : ℕ) → i < length ws → get_or (objects_of ws) i 0 ≡ object → NoneBefore ws object i → remove ws i ≡ woken object ws
first_woken [] object i h e f = absurd (omega (arith, h))
first_woken (w ∷ ws) object zero h e f = rw (eq-eqb w.object object e) refl
first_woken (w ∷ ws) object (suc i) h e f =
    rw (ne_eqb w.object object (f 0 (omega arith)))
    (ap (λ (vs : List Waiter). w ∷ vs) (first_woken ws object i (omega (arith, h)) e (λ k l. f (suc k) (omega (arith, l)))))

pub first_longest : (ws : List Waiter) (object i : ℕ) (d : Waiter) → i < length ws → get_or (objects_of ws) i 0 ≡ object → NoneBefore ws object i → Some (get_or ws i d).thread ≡ longest object ws
first_longest [] object i d h e f = absurd (omega (arith, h))
first_longest (w ∷ ws) object zero d h e f = rw (eq-eqb w.object object e) refl
first_longest (w ∷ ws) object (suc i) d h e f =
    rw (ne_eqb w.object object (f 0 (omega arith))) (first_longest ws object i d (omega (arith, h)) e (λ k l. f (suc k) (omega (arith, l))))

pub none_woken : (ws : List Waiter) (object : ℕ) → NoneBefore ws object (length ws) → (longest object ws ≡ None) × (woken object ws ≡ ws)
none_woken [] object f = (refl, refl)
none_woken (w ∷ ws) object f =
    let rest : (longest object ws ≡ None) × (woken object ws ≡ ws) = none_woken ws object (λ k l. f (suc k) (omega (arith, l))) in
    rw (ne_eqb w.object object (f 0 (omega arith))) (rest.0, ap (λ (vs : List Waiter). w ∷ vs) rest.1)

pub object_at : (ws : List Waiter) (i : ℕ) (d : Waiter) → i < length ws → get_or (objects_of ws) i 0 ≡ (get_or ws i d).object
object_at ws i d h = get_or-map (λ (w : Waiter). w.object) ws i d 0 h
