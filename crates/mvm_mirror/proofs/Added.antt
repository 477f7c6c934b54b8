-- What is seen by names once a mirror was added that nobody looked at: the same as before.
use Rattle.std.proofs.Common.{◌≡◌, ℕ, zero, suc, ◌<◌, List, [], ◌∷◌, ◌++◌, length, Bool, true, false, cond, Option, Some, None, refl, sym, ap, subst, ◌∙◌, arith, inl, inr}
use Rattle.std.specs.Prelude.{slice_get, ◌⊎◌}
use Rattle.std.specs.Option.{option_and_then}
use Rattle.std.specs.Str.{bytes_eq}
use Rattle.std.proofs.lemmas.List.{length-map, map_push, length_push}
use Rattle.mvm_layout.specs.Pool.{text, is_text}
use Rattle.mvm_layout.specs.declared.parts.Member.{Member}
use Rattle.mvm_set.specs.Names.{own_name, is_called}
use Rattle.mvm_set.specs.declared.class.Lineage.{Lineage}
use Rattle.mvm_mirror.specs.declared.mirror.Mirror.{Mirror}
use Rattle.mvm_mirror.specs.Statics.{slot_of, statics_of, zero_or}
use Rattle.mvm_mirror.specs.Seen.{number_of, number_named, number_like}
use Rattle.mvm_mirror.specs.Kept.{classes_of, mirror_of, state_in, static_in, object_in, states, statics, objects, seen_of, first_state_of, fresh, word_at, IsKept}
use Rattle.mvm_mirror.proofs.Numbers.{same, named, is_called_so, number_or, number_push, number_below}
use Rattle.mvm_mirror.proofs.Places.{zero_at}
use Rattle.mvm_mirror.proofs.Changed.{seen_is}

pub get_push_last : {X : Type 0} (xs : List X) (y : X) → slice_get (xs ++ y ∷ []) (length xs) ≡ Some y
get_push_last [] y = refl
get_push_last (x ∷ xs) y = get_push_last xs y

pub get_push_below : {X : Type 0} (xs : List X) (y : X) (k : ℕ) → k < length xs → slice_get (xs ++ y ∷ []) k ≡ slice_get xs k
get_push_below [] y k h = absurd (omega (arith, h))
get_push_below (x ∷ xs) y zero h = refl
get_push_below (x ∷ xs) y (suc k) h = get_push_below xs y k (omega (arith, h))

pub get_push : {X : Type 0} (xs : List X) (y z : X) (k : ℕ) → slice_get (xs ++ y ∷ []) k ≡ Some z → (slice_get xs k ≡ Some z) ⊎ ((y ≡ z) × (length xs ≡ k))
get_push [] y z zero e = let h : y ≡ z = cc in inr (h, refl)
get_push [] y z (suc k) e = absurd cc
get_push (x ∷ xs) y z zero e = inl e
get_push (x ∷ xs) y z (suc k) e = elim (get_push xs y z k e) [ inl h ↦ inl h | inr h ↦ inr (h.0, ap suc h.1) ]

classes_push : (ms : List Mirror) (m : Mirror) → classes_of (ms ++ m ∷ []) ≡ classes_of ms ++ m.class ∷ []
classes_push ms m = map_push (λ (y : Mirror). y.class) ms m

-- a mirror with this name behind the others, of which none has the name
pub record Adds (ms : List Mirror) (m : Mirror) (name : List ℕ) : Type 0 where
  pub named : own_name m.class.file ≡ Some name
  pub is_fresh : m ≡ fresh m.class
  pub is_new : number_of name (classes_of ms) ≡ None

called_as : (ms : List Mirror) (m : Mirror) (name other : List ℕ) → Adds ms m name → is_called other m.class.file ≡ bytes_eq name other
called_as ms m name other a = ap (is_text other) a.named

number_after : (ms : List Mirror) (m : Mirror) (other : List ℕ) → number_of other (classes_of (ms ++ m ∷ [])) ≡ number_or (number_of other (classes_of ms)) (is_called other m.class.file) (length (classes_of ms))
number_after ms m other = ap (number_of other) (classes_push ms m) ∙ number_push other (classes_of ms) m.class

count_is : (ms : List Mirror) → length (classes_of ms) ≡ length ms
count_is ms = length-map ms (λ (y : Mirror). y.class)

-- ---- numbers

pub number_added : (ms ns : List Mirror) (m : Mirror) (name : List ℕ) (count : ℕ) → Adds ms m name → ns ≡ ms ++ m ∷ [] → count ≡ length ms → number_of name (classes_of ns) ≡ Some count
number_added ms ns m name count a e c =
    ap (λ (l : List Mirror). number_of name (classes_of l)) e ∙ number_after ms m name
    ∙ ap (λ (r : Option ℕ). number_or r (is_called name m.class.file) (length (classes_of ms))) a.is_new
    ∙ ap (λ (b : Bool). number_or None b (length (classes_of ms))) (is_called_so name (own_name m.class.file) a.named)
    ∙ ap (λ (i : ℕ). Some i) (count_is ms ∙ sym c)

one_of : (b : Bool) (r : Option ℕ) (n : ℕ) → (b ≡ true → r ≡ None) → cond b (Some n) r ≡ number_or r b n
one_of true (Some k) n h = absurd (let q = h refl in cc)
one_of true None n h = refl
one_of false (Some k) n h = refl
one_of false None n h = refl

numbers_after : (look look' : List ℕ → Option ℕ) (ms : List Mirror) (m : Mirror) (name : List ℕ) → Adds ms m name → ((other : List ℕ) → look other ≡ number_of other (classes_of ms))
    → ((other : List ℕ) → look' other ≡ cond (bytes_eq name other) (Some (length ms)) (look other)) → (other : List ℕ) → look' other ≡ number_of other (classes_of (ms ++ m ∷ []))
numbers_after look look' ms m name a k u other =
    u other
    ∙ ap (cond (bytes_eq name other) (Some (length ms))) (k other)
    ∙ one_of (bytes_eq name other) (number_of other (classes_of ms)) (length ms) (λ q. subst (λ (t : List ℕ). number_of t (classes_of ms) ≡ None) (same name other q) a.is_new)
    ∙ sym (number_after ms m other
    ∙ ap (λ (b : Bool). number_or (number_of other (classes_of ms)) b (length (classes_of ms))) (called_as ms m name other a)
    ∙ ap (number_or (number_of other (classes_of ms)) (bytes_eq name other)) (count_is ms))

like_after : (ms : List Mirror) (m : Mirror) (own : Option (List ℕ)) (k : ℕ) → number_named own (classes_of ms) ≡ Some k → number_named own (classes_of (ms ++ m ∷ [])) ≡ Some k
like_after ms m (Some t) k e = number_after ms m t ∙ ap (λ (r : Option ℕ). number_or r (is_called t m.class.file) (length (classes_of ms))) e
like_after ms m None k e = absurd cc

own_after : (look : List ℕ → Option ℕ) (ms : List Mirror) (m : Mirror) (name : List ℕ) → IsKept look ms → Adds ms m name
    → (k : ℕ) (c : Lineage) → slice_get (classes_of (ms ++ m ∷ [])) k ≡ Some c → number_like c (classes_of (ms ++ m ∷ [])) ≡ Some k
own_after look ms m name s a k c e =
    elim (get_push (classes_of ms) m.class c k (subst (λ (ds : List Lineage). slice_get ds k ≡ Some c) (classes_push ms m) e)) [
      | inl h ↦ like_after ms m (own_name c.file) k (s.own k c h)
      | inr h ↦ subst (λ (d : Lineage). number_like d (classes_of (ms ++ m ∷ [])) ≡ Some k) h.0
          (ap (λ (o : Option (List ℕ)). number_named o (classes_of (ms ++ m ∷ []))) a.named ∙ number_added ms (ms ++ m ∷ []) m name k a refl (sym h.1 ∙ count_is ms))
    ]

full_after : (look : List ℕ → Option ℕ) (ms : List Mirror) (m : Mirror) (name : List ℕ) → IsKept look ms → Adds ms m name
    → (k : ℕ) (x : Mirror) → slice_get (ms ++ m ∷ []) k ≡ Some x → length x.statics ≡ length (statics_of x.class.file)
full_after look ms m name s a k x e =
    elim (get_push ms m x k e) [
      | inl h ↦ s.full k x h
      | inr h ↦ subst (λ (y : Mirror). length y.statics ≡ length (statics_of y.class.file)) h.0
          (ap (λ (y : Mirror). length y.statics) a.is_fresh ∙ length-map (statics_of m.class.file) (λ (f : Member). zero_or (text m.class.file.pool f.desc)))
    ]

pub kept_push : (look look' : List ℕ → Option ℕ) (ms ns : List Mirror) (m : Mirror) (name key : List ℕ) (count : ℕ) → IsKept look ms → Adds ms m name → ns ≡ ms ++ m ∷ [] → key ≡ name → count ≡ length ms
    → length ms < 4294967295 → ((other : List ℕ) → look' other ≡ cond (bytes_eq key other) (Some count) (look other)) → IsKept look' ns
kept_push look look' ms ns m name key count s a e q c l u =
    let v : (other : List ℕ) → look' other ≡ cond (bytes_eq name other) (Some (length ms)) (look other) =
    λ other. u other ∙ ap (λ (t : List ℕ). cond (bytes_eq t other) (Some count) (look other)) q ∙ ap (λ (i : ℕ). cond (bytes_eq name other) (Some i) (look other)) c in
    subst (IsKept look') (sym e) (record {
      numbers = numbers_after look look' ms m name a s.numbers v;
      own = own_after look ms m name s a;
      full = full_after look ms m name s a;
      few = omega (arith, l, length_push ms m);
    })

-- ---- the maps by name

module _ {X : Type 0} (look : List ℕ → Option Mirror → X) where
  look_push : (ms : List Mirror) (m : Mirror) (other : List ℕ) → (is_called other m.class.file ≡ true → look other (Some m) ≡ look other None)
      → look other (mirror_of other (ms ++ m ∷ [])) ≡ look other (mirror_of other ms)
  look_push ms m other h =
      ap (λ (r : Option ℕ). look other (option_and_then (slice_get (ms ++ m ∷ [])) r)) (number_after ms m other)
      ∙ by (number_of other (classes_of ms)) (is_called other m.class.file) refl refl
    where
      by : (r : Option ℕ) (b : Bool) → number_of other (classes_of ms) ≡ r → is_called other m.class.file ≡ b
          → look other (option_and_then (slice_get (ms ++ m ∷ [])) (number_or r b (length (classes_of ms)))) ≡ look other (option_and_then (slice_get ms) r)
      by (Some k) b e f = ap (look other) (get_push_below ms m k (omega (arith, count_is ms, number_below other (classes_of ms) k e)))
      by None true e f = ap (look other) (ap (slice_get (ms ++ m ∷ [])) (count_is ms) ∙ get_push_last ms m) ∙ h f
      by None false e f = refl

states_push : (ms : List Mirror) (m : Mirror) → m ≡ fresh m.class → states (ms ++ m ∷ []) ≡ states ms
unfolding states
states_push ms m e = λ j. λ other. look_push state_in ms m other (λ h. ap (λ (y : Mirror). y.state) e ∙ ap first_state_of (named other (own_name m.class.file) h)) j

statics_push : (ms : List Mirror) (m : Mirror) → m ≡ fresh m.class → statics (ms ++ m ∷ []) ≡ statics ms
unfolding statics slot_of
statics_push ms m e = λ j. λ other f d. look_push (λ (t : List ℕ) (o : Option Mirror). static_in f d o) ms m other
    (λ h. ap (λ (y : Mirror). word_at d y.statics (slot_of f d m.class.file)) e ∙ zero_at m.class.file.pool f d (statics_of m.class.file)) j

objects_push : (ms : List Mirror) (m : Mirror) → m ≡ fresh m.class → objects (ms ++ m ∷ []) ≡ objects ms
unfolding objects
objects_push ms m e = λ j. λ other. look_push (λ (t : List ℕ) (o : Option Mirror). object_in o) ms m other (λ h. ap (λ (y : Mirror). y.object) e) j

pub seen_push : (ms ns : List Mirror) (m : Mirror) → m ≡ fresh m.class → ns ≡ ms ++ m ∷ [] → seen_of ns ≡ seen_of ms
seen_push ms ns m e h = ap seen_of h ∙ seen_is (ms ++ m ∷ []) (states ms) (statics ms) (objects ms) (states_push ms m e) (statics_push ms m e) (objects_push ms m e)
