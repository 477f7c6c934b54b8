-- Static fields by slot are static fields by name and descriptor.
use Rattle.std.proofs.Common.{◌≡◌, ◌≢◌, ℕ, zero, suc, ◌<◌, List, [], ◌∷◌, length, map, Bool, true, false, cond, ◌&&◌, Option, Some, None, refl, sym, ap, subst, ◌∙◌, arith}
use Rattle.std.specs.Prelude.{slice_set, slice_index_or}
use Rattle.std.specs.Str.{bytes_eq}
use Rattle.std.proofs.lemmas.List.{get_or-set_same, get_or-set_other}
use Rattle.mvm_base.specs.declared.value.Word.{Word}
use Rattle.mvm_layout.specs.Pool.{text, is_text}
use Rattle.mvm_layout.specs.declared.parts.Item.{Item}
use Rattle.mvm_layout.specs.declared.parts.Member.{Member}
use Rattle.mvm_mirror.specs.Statics.{zero_of, zero_or, place_in}
use Rattle.mvm_mirror.specs.Kept.{word_at}
use Rattle.mvm_mirror.proofs.Numbers.{same, itself, named, called_same, first, later}

both : (a b : Bool) → a && b ≡ true → (a ≡ true) × (b ≡ true)
both true true e = (refl, refl)
both true false e = absurd cc
both false b e = absurd cc

-- two keys of one place are one key
pub place_same : (pool : List Item) (f d g e : List ℕ) (ms : List Member) (s : ℕ) → place_in pool f d ms ≡ Some s → place_in pool g e ms ≡ Some s → (f ≡ g) × (d ≡ e)
place_same pool f d g e [] s p q = absurd cc
place_same pool f d g e (m ∷ ms) zero p q =
    let x : (is_text f (text pool m.name) ≡ true) × (is_text d (text pool m.desc) ≡ true) = both _ _ (first _ _ p) in
    let y : (is_text g (text pool m.name) ≡ true) × (is_text e (text pool m.desc) ≡ true) = both _ _ (first _ _ q) in
    (called_same f g (text pool m.name) x.0 y.0, called_same d e (text pool m.desc) x.1 y.1)
place_same pool f d g e (m ∷ ms) (suc s) p q = place_same pool f d g e ms s (later _ _ s p).1 (later _ _ s q).1

pub place_below : (pool : List Item) (f d : List ℕ) (ms : List Member) (s : ℕ) → place_in pool f d ms ≡ Some s → s < length ms
place_below pool f d [] s p = absurd cc
place_below pool f d (m ∷ ms) zero p = omega arith
place_below pool f d (m ∷ ms) (suc s) p = omega (arith, place_below pool f d ms s (later _ _ s p).1)

-- what a field begins with that stands at a place
zero_found : (pool : List Item) (f d : List ℕ) (ms : List Member) (s : ℕ) → place_in pool f d ms ≡ Some s → slice_index_or (map (λ (m : Member). zero_or (text pool m.desc)) ms) s (zero_of d) ≡ zero_of d
zero_found pool f d [] s p = absurd cc
zero_found pool f d (m ∷ ms) zero p =
    let x : (is_text f (text pool m.name) ≡ true) × (is_text d (text pool m.desc) ≡ true) = both _ _ (first _ _ p) in
    ap zero_or (named d (text pool m.desc) x.1)
zero_found pool f d (m ∷ ms) (suc s) p = zero_found pool f d ms s (later _ _ s p).1

pub zero_at : (pool : List Item) (f d : List ℕ) (ms : List Member) → word_at d (map (λ (m : Member). zero_or (text pool m.desc)) ms) (place_in pool f d ms) ≡ zero_of d
zero_at pool f d ms = by (place_in pool f d ms) refl
  where
    by : (r : Option ℕ) → place_in pool f d ms ≡ r → word_at d (map (λ (m : Member). zero_or (text pool m.desc)) ms) r ≡ zero_of d
    by None p = refl
    by (Some s) p = zero_found pool f d ms s p

-- one value written
pub written : (pool : List Item) (f d g e : List ℕ) (ms : List Member) (ws : List Word) (s : ℕ) (w : Word) → place_in pool f d ms ≡ Some s → s < length ws
    → word_at e (slice_set ws s w) (place_in pool g e ms) ≡ cond (bytes_eq f g && bytes_eq d e) w (word_at e ws (place_in pool g e ms))
written pool f d g e ms ws s w p l = by (bytes_eq f g) (bytes_eq d e) (place_in pool g e ms) refl refl refl
  where
    other : (r : Option ℕ) → place_in pool g e ms ≡ r → ((f ≡ g) × (d ≡ e) → ⊥) → word_at e (slice_set ws s w) r ≡ word_at e ws r
    other None q n = refl
    other (Some k) q n =
        let apart : k ≢ s = λ h. n (place_same pool f d g e ms s p (subst (λ (i : ℕ). place_in pool g e ms ≡ Some i) h q)) in
        get_or-set_other ws s k w (zero_of e) apart

    no : (x y : List ℕ) → bytes_eq x y ≡ false → x ≡ y → ⊥
    no x y h i = let t : bytes_eq x y ≡ true = rw i (itself y) in absurd cc

    by : (a b : Bool) (r : Option ℕ) → bytes_eq f g ≡ a → bytes_eq d e ≡ b → place_in pool g e ms ≡ r → word_at e (slice_set ws s w) r ≡ cond (a && b) w (word_at e ws r)
    by true true r x y q =
        let there : place_in pool g e ms ≡ Some s = rw (sym (same f g x), sym (same d e y)) p in
        let is : r ≡ Some s = sym q ∙ there in
        rw is (get_or-set_same ws s w (zero_of e) l)
    by true false r x y q = other r q (λ h. no d e y h.1)
    by false b r x y q = other r q (λ h. no f g x h.0)
