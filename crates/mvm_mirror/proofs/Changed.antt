-- What is seen by names once one mirror was changed.
use Rattle.std.proofs.lemmas.Bool.Decides.{eqb_tells}
use Rattle.std.proofs.Common.{inl, inr, ◌≡◌, ℕ, zero, suc, ◌<◌, List, [], ◌∷◌, length, Bool, true, false, cond, ◌&&◌, Option, Some, None, refl, sym, ap, subst, ◌∙◌, arith}
use Rattle.std.specs.Prelude.{slice_get, slice_set}
use Rattle.std.specs.Option.{option_map, option_and_then}
use Rattle.std.specs.Str.{bytes_eq}
use Rattle.std.proofs.lemmas.List.{length-set}
use Rattle.std.proofs.lemmas.Option.{slice_get-map, get_or_from_slice_get}
use Rattle.mvm_base.specs.declared.value.Word.{Word}
use Rattle.mvm_set.specs.declared.class.Lineage.{Lineage}
use Rattle.mvm_mirror.specs.declared.mirror.Mirror.{Mirror}
use Rattle.mvm_mirror.specs.declared.state.InitState.{InitState}
use Rattle.mvm_mirror.specs.Statics.{slot_of, statics_of, place_in, zero_of}
use Rattle.mvm_mirror.specs.Seen.{number_of, number_like, slot_in, changed, with_state, with_object, with_static, IsStatic}
use Rattle.mvm_mirror.specs.Kept.{classes_of, mirror_of, state_in, static_in, object_in, states, statics, objects, seen_of, word_at, IsKept}
use Rattle.mvm_mirror.proofs.Numbers.{same, itself, number_same}
use Rattle.mvm_mirror.proofs.Places.{written, place_below}

pub get_set_same : {X : Type 0} (xs : List X) (n : ℕ) (x y : X) → slice_get xs n ≡ Some y → slice_get (slice_set xs n x) n ≡ Some x
get_set_same [] n x y e = absurd cc
get_set_same (z ∷ xs) zero x y e = refl
get_set_same (z ∷ xs) (suc n) x y e = get_set_same xs n x y e

pub get_set_other : {X : Type 0} (xs : List X) (n k : ℕ) (x : X) → (k ≡ n → ⊥) → slice_get (slice_set xs n x) k ≡ slice_get xs k
get_set_other [] n k x f = refl
get_set_other (z ∷ xs) zero zero x f = absurd (f refl)
get_set_other (z ∷ xs) zero (suc k) x f = refl
get_set_other (z ∷ xs) (suc n) zero x f = refl
get_set_other (z ∷ xs) (suc n) (suc k) x f = get_set_other xs n k x (λ h. f (ap suc h))

pub classes_set : (ms : List Mirror) (n : ℕ) (m m' : Mirror) → slice_get ms n ≡ Some m → m'.class ≡ m.class → classes_of (slice_set ms n m') ≡ classes_of ms
classes_set [] n m m' e c = refl
classes_set (x ∷ xs) zero m m' e c = let k : x ≡ m = cc in ap (λ (d : Lineage). d ∷ classes_of xs) (c ∙ sym (ap (λ (y : Mirror). y.class) k))
classes_set (x ∷ xs) (suc n) m m' e c = ap (λ (cs : List Lineage). x.class ∷ cs) (classes_set xs n m m' e c)

-- the mirror of a number and of a name is another one now, of the same class
pub record Sets (ms : List Mirror) (n : ℕ) (m m' : Mirror) (name : List ℕ) : Type 0 where
  pub at : slice_get ms n ≡ Some m
  pub class : m'.class ≡ m.class
  pub number : number_of name (classes_of ms) ≡ Some n

-- the mirror of a number is that of its name
pub mirror_is : (ms : List Mirror) (n : ℕ) (m : Mirror) (name : List ℕ) → slice_get ms n ≡ Some m → number_of name (classes_of ms) ≡ Some n → mirror_of name ms ≡ Some m
mirror_is ms n m name e k = ap (option_and_then (slice_get ms)) k ∙ e

mirror_set : (ms : List Mirror) (n : ℕ) (m m' : Mirror) (name other : List ℕ) → Sets ms n m m' name → mirror_of other (slice_set ms n m') ≡ cond (bytes_eq name other) (Some m') (mirror_of other ms)
mirror_set ms n m m' name other s =
    ap (λ (cs : List Lineage). option_and_then (slice_get (slice_set ms n m')) (number_of other cs)) (classes_set ms n m m' s.at s.class)
    ∙ by (bytes_eq name other) (number_of other (classes_of ms)) refl refl
  where
    by : (b : Bool) (r : Option ℕ) → bytes_eq name other ≡ b → number_of other (classes_of ms) ≡ r → option_and_then (slice_get (slice_set ms n m')) r ≡ cond b (Some m') (option_and_then (slice_get ms) r)
    by true r e h =
        let there : number_of other (classes_of ms) ≡ Some n = subst (λ (t : List ℕ). number_of t (classes_of ms) ≡ Some n) (same name other e) s.number in
        ap (option_and_then (slice_get (slice_set ms n m'))) (sym h ∙ there) ∙ get_set_same ms n m' m s.at
    by false None e h = refl
    by false (Some k) e h =
        get_set_other ms n k m' (λ q. let t : name ≡ other = number_same name other (classes_of ms) n s.number (subst (λ (i : ℕ). number_of other (classes_of ms) ≡ Some i) q h) in
        let u : bytes_eq name other ≡ true = rw t (itself other) in absurd cc)

module _ {X : Type 0} (look : List ℕ → Option Mirror → X) where
  -- what a name sees changes for that name alone
  look_set : (ms : List Mirror) (n : ℕ) (m m' : Mirror) (name other : List ℕ) → Sets ms n m m' name
      → look other (mirror_of other (slice_set ms n m')) ≡ cond (bytes_eq name other) (look other (Some m')) (look other (mirror_of other ms))
  look_set ms n m m' name other s = ap (look other) (mirror_set ms n m m' name other s) ∙ by (bytes_eq name other)
    where
      by : (b : Bool) → look other (cond b (Some m') (mirror_of other ms)) ≡ cond b (look other (Some m')) (look other (mirror_of other ms))
      by true = refl
      by false = refl

  look_same : (ms : List Mirror) (n : ℕ) (m m' : Mirror) (name other : List ℕ) → Sets ms n m m' name → look other (Some m') ≡ look other (Some m)
      → look other (mirror_of other (slice_set ms n m')) ≡ look other (mirror_of other ms)
  look_same ms n m m' name other s e = look_set ms n m m' name other s ∙ by (bytes_eq name other) refl
    where
      by : (b : Bool) → bytes_eq name other ≡ b → cond b (look other (Some m')) (look other (mirror_of other ms)) ≡ look other (mirror_of other ms)
      by true q =
          let is : mirror_of other ms ≡ Some m = subst (λ (t : List ℕ). mirror_of t ms ≡ Some m) (same name other q) (mirror_is ms n m name s.at s.number) in
          e ∙ sym (ap (look other) is)
      by false q = refl

-- ---- each map

states_same : (ms : List Mirror) (n : ℕ) (m m' : Mirror) (name : List ℕ) → Sets ms n m m' name → m'.state ≡ m.state → states (slice_set ms n m') ≡ states ms
unfolding states
states_same ms n m m' name s e = λ j. λ other. look_same state_in ms n m m' name other s e j

statics_same : (ms : List Mirror) (n : ℕ) (m m' : Mirror) (name : List ℕ) → Sets ms n m m' name → m'.statics ≡ m.statics → statics (slice_set ms n m') ≡ statics ms
unfolding statics
statics_same ms n m m' name s e = λ j. λ other f d. look_same (λ (t : List ℕ) (o : Option Mirror). static_in f d o) ms n m m' name other s (rw (e, s.class) refl) j

objects_same : (ms : List Mirror) (n : ℕ) (m m' : Mirror) (name : List ℕ) → Sets ms n m m' name → m'.object ≡ m.object → objects (slice_set ms n m') ≡ objects ms
unfolding objects
objects_same ms n m m' name s e = λ j. λ other. look_same (λ (t : List ℕ) (o : Option Mirror). object_in o) ms n m m' name other s e j

states_set : (ms : List Mirror) (n : ℕ) (m m' : Mirror) (name : List ℕ) → Sets ms n m m' name → states (slice_set ms n m') ≡ changed name m'.state (states ms)
unfolding states
states_set ms n m m' name s = λ j. λ other. look_set state_in ms n m m' name other s j

objects_set : (ms : List Mirror) (n : ℕ) (m m' : Mirror) (name : List ℕ) → Sets ms n m m' name → objects (slice_set ms n m') ≡ changed name m'.object (objects ms)
unfolding objects
objects_set ms n m m' name s = λ j. λ other. look_set (λ (t : List ℕ) (o : Option Mirror). object_in o) ms n m m' name other s j

pub seen_is : (ms : List Mirror) (s : List ℕ → InitState) (t : List ℕ → List ℕ → List ℕ → Word) (o : List ℕ → Option ℕ) → states ms ≡ s → statics ms ≡ t → objects ms ≡ o
    → seen_of ms ≡ record { states = s; statics = t; objects = o }
seen_is ms s t o e f g = rw (e, f, g) refl

pub state_set : (ms : List Mirror) (n : ℕ) (m : Mirror) (state : InitState) (name : List ℕ) → slice_get ms n ≡ Some m → number_of name (classes_of ms) ≡ Some n
    → seen_of (slice_set ms n (record m { state = state })) ≡ with_state name state (seen_of ms)
unfolding with_state
state_set ms n m state name e k =
    let m' : Mirror = record m { state = state } in
    let s : Sets ms n m m' name = record { at = e; class = refl; number = k } in
    seen_is (slice_set ms n m') (changed name state (states ms)) (statics ms) (objects ms) (states_set ms n m m' name s) (statics_same ms n m m' name s refl) (objects_same ms n m m' name s refl)

pub object_set : (ms : List Mirror) (n : ℕ) (m : Mirror) (object : ℕ) (name : List ℕ) → slice_get ms n ≡ Some m → number_of name (classes_of ms) ≡ Some n
    → seen_of (slice_set ms n (record m { object = Some object })) ≡ with_object name object (seen_of ms)
unfolding with_object
object_set ms n m object name e k =
    let m' : Mirror = record m { object = Some object } in
    let s : Sets ms n m m' name = record { at = e; class = refl; number = k } in
    seen_is (slice_set ms n m') (states ms) (statics ms) (changed name (Some object) (objects ms)) (states_same ms n m m' name s refl) (statics_same ms n m m' name s refl) (objects_set ms n m m' name s)

-- ---- reading

class_at : (ms : List Mirror) (n : ℕ) (m : Mirror) → slice_get ms n ≡ Some m → slice_get (classes_of ms) n ≡ Some m.class
class_at ms n m e = slice_get-map (λ (y : Mirror). y.class) ms n ∙ ap (option_map (λ (y : Mirror). y.class)) e

pub class_numbered : (look : List ℕ → Option ℕ) (ms : List Mirror) (n : ℕ) (m : Mirror) → IsKept look ms → slice_get ms n ≡ Some m → number_like m.class (classes_of ms) ≡ Some n
class_numbered look ms n m k e = k.own n m.class (class_at ms n m e)

pub state_is : (ms : List Mirror) (n : ℕ) (m : Mirror) (name : List ℕ) → slice_get ms n ≡ Some m → number_of name (classes_of ms) ≡ Some n → m.state ≡ states ms name
unfolding states
state_is ms n m name e k = sym (ap (state_in name) (mirror_is ms n m name e k))

pub object_is : (ms : List Mirror) (n : ℕ) (m : Mirror) (name : List ℕ) → slice_get ms n ≡ Some m → number_of name (classes_of ms) ≡ Some n → m.object ≡ objects ms name
unfolding objects
object_is ms n m name e k = sym (ap object_in (mirror_is ms n m name e k))

slot_is : (ms : List Mirror) (n slot : ℕ) (m : Mirror) (name field desc : List ℕ) → slice_get ms n ≡ Some m → IsStatic (classes_of ms) n slot name field desc
    → place_in m.class.file.pool field desc (statics_of m.class.file) ≡ Some slot
unfolding slot_of
slot_is ms n slot m name field desc e i = sym (ap (slot_in field desc) (class_at ms n m e)) ∙ i.placed

pub static_is : (ms : List Mirror) (n slot : ℕ) (m : Mirror) (w : Word) (name field desc : List ℕ) → slice_get ms n ≡ Some m → slice_get m.statics slot ≡ Some w → IsStatic (classes_of ms) n slot name field desc
    → w ≡ statics ms name field desc
unfolding statics slot_of
static_is ms n slot m w name field desc e g i =
    sym (ap (static_in field desc) (mirror_is ms n m name e i.numbered)
    ∙ ap (word_at desc m.statics) (slot_is ms n slot m name field desc e i)
    ∙ get_or_from_slice_get m.statics slot w (zero_of desc) g)

-- ---- writing

statics_set : (ms : List Mirror) (n slot : ℕ) (m : Mirror) (w : Word) (name field desc : List ℕ) → slice_get ms n ≡ Some m → slot < length m.statics → IsStatic (classes_of ms) n slot name field desc
    → statics (slice_set ms n (record m { statics = slice_set m.statics slot w }))
    ≡ (λ (o f d : List ℕ). cond (bytes_eq name o && (bytes_eq field f && bytes_eq desc d)) w (statics ms o f d))
unfolding statics slot_of
statics_set ms n slot m w name field desc e l i = λ j. λ o f d. at_each o f d j
  where
    m' : Mirror
    m' = record m { statics = slice_set m.statics slot w }

    sets : Sets ms n m m' name
    sets = record { at = e; class = refl; number = i.numbered }

    at_each : (o f d : List ℕ) → static_in f d (mirror_of o (slice_set ms n m')) ≡ cond (bytes_eq name o && (bytes_eq field f && bytes_eq desc d)) w (static_in f d (mirror_of o ms))
    at_each o f d = look_set (λ (t : List ℕ) (x : Option Mirror). static_in f d x) ms n m m' name o sets ∙ by (bytes_eq name o) refl
      where
        by : (b : Bool) → bytes_eq name o ≡ b → cond b (static_in f d (Some m')) (static_in f d (mirror_of o ms)) ≡ cond (b && (bytes_eq field f && bytes_eq desc d)) w (static_in f d (mirror_of o ms))
        by true q =
            let is : mirror_of o ms ≡ Some m = subst (λ (t : List ℕ). mirror_of t ms ≡ Some m) (same name o q) (mirror_is ms n m name e i.numbered) in
            written m.class.file.pool field desc f d (statics_of m.class.file) m.statics slot w (slot_is ms n slot m name field desc e i) l
            ∙ ap (cond (bytes_eq field f && bytes_eq desc d) w) (sym (ap (static_in f d) is))
        by false q = refl

pub static_set : (look : List ℕ → Option ℕ) (ms : List Mirror) (n slot : ℕ) (m : Mirror) (w : Word) (name field desc : List ℕ) → IsKept look ms → slice_get ms n ≡ Some m → IsStatic (classes_of ms) n slot name field desc
    → seen_of (slice_set ms n (record m { statics = slice_set m.statics slot w })) ≡ with_static name field desc w (seen_of ms)
unfolding with_static
static_set look ms n slot m w name field desc k e i =
    let m' : Mirror = record m { statics = slice_set m.statics slot w } in
    let s : Sets ms n m m' name = record { at = e; class = refl; number = i.numbered } in
    let l : slot < length m.statics = omega (arith, k.full n m e, place_below m.class.file.pool field desc (statics_of m.class.file) slot (slot_is ms n slot m name field desc e i)) in
    seen_is (slice_set ms n m') (states ms) (λ (o f d : List ℕ). cond (bytes_eq name o && (bytes_eq field f && bytes_eq desc d)) w (statics ms o f d)) (objects ms)
    (states_same ms n m m' name s refl) (statics_set ms n slot m w name field desc e l i) (objects_same ms n m m' name s refl)

-- ---- what is kept

pub kept_set : (look : List ℕ → Option ℕ) (ms : List Mirror) (n : ℕ) (m m' : Mirror) → IsKept look ms → slice_get ms n ≡ Some m → m'.class ≡ m.class → length m'.statics ≡ length m.statics
    → IsKept look (slice_set ms n m')
kept_set look ms n m m' k e c l =
    let cs : classes_of (slice_set ms n m') ≡ classes_of ms = classes_set ms n m m' e c in
    record {
      numbers = λ name. k.numbers name ∙ ap (number_of name) (sym cs);
      own = subst (λ (ds : List Lineage). (mirror : ℕ) (class : Lineage) → slice_get ds mirror ≡ Some class → number_like class ds ≡ Some mirror) (sym cs) k.own;
      full = λ place x g. elim (eqb_tells place n) [
        | inl q ↦ (let there : slice_get (slice_set ms n m') place ≡ Some m' = subst (λ (i : ℕ). slice_get (slice_set ms n m') i ≡ Some m') (sym q.1) (get_set_same ms n m' m e) in
            let is : m' ≡ x = cc in
            subst (λ (y : Mirror). length y.statics ≡ length (statics_of y.class.file)) is (l ∙ k.full n m e ∙ ap (λ (d : Lineage). length (statics_of d.file)) (sym c)))
        | inr q ↦ k.full place x (sym (get_set_other ms n place m' q.1) ∙ g)
      ];
      few = omega (arith, k.few, length-set ms n m');
    }
