-- Packages: the units of a name before its last slash.
use Rattle.std.proofs.Common.{◌≡◌, ℕ, ◌+◌, ◌<◌, Bool, true, false, List, [], ◌∷◌, ◌++◌, length, take, drop, refl, ap, ◌∙◌, arith}
use Rattle.std.specs.Prelude.{◌||◌, ◌==◌, slice_index, if◌then◌else◌}
use Rattle.std.proofs.lemmas.Grind.{common_steps}
use Rattle.mvm_set.specs.Names.{has_slash, package_of}
use Rattle.mvm_set.specs.declared.names.TheConstants.{SLASH}

no_right : (a b : Bool) → (a || b) ≡ false → b ≡ false
no_right true b e = absurd cc
no_right false b e = e

right : (a b : Bool) → b ≡ true → (a || b) ≡ true
right true b e = refl
right false b e = e

pub no_package : (name : List ℕ) → has_slash name ≡ false → package_of name ≡ []
unfolding package_of
no_package [] h = refl
no_package (unit ∷ units) h = ap (λ b. if b then unit ∷ package_of units else []) (no_right (unit == SLASH) (has_slash units) h)

slash_inside : (before after : List ℕ) → has_slash (before ++ SLASH ∷ after) ≡ true
slash_inside [] after = refl
slash_inside (unit ∷ before) after = right (unit == SLASH) (has_slash (before ++ SLASH ∷ after)) (slash_inside before after)

split : (before after : List ℕ) → has_slash after ≡ false → package_of (before ++ SLASH ∷ after) ≡ before
unfolding package_of
split [] after h = ap (λ b. if b then SLASH ∷ package_of after else []) h
split (unit ∷ before) after h =
    ap (λ b. if b then unit ∷ package_of (before ++ SLASH ∷ after) else []) (slash_inside before after)
    ∙ ap (λ (units : List ℕ). unit ∷ units) (split before after h)

pub package_before : (name : List ℕ) (at : ℕ) → at < length name → slice_index name at ≡ SLASH → has_slash (drop (at + 1) name) ≡ false → package_of name ≡ take at name
package_before name at h s n =
    let e : name ≡ take at name ++ slice_index name at ∷ drop (at + 1) name = grind (arith, common_steps) in
    ap package_of (e ∙ ap (λ (unit : ℕ). take at name ++ unit ∷ drop (at + 1) name) s) ∙ split (take at name) (drop (at + 1) name) n

pub no_slash_before : (name : List ℕ) (at : ℕ) → at < length name → (slice_index name at == SLASH) ≡ false → has_slash (drop (at + 1) name) ≡ false → has_slash (drop at name) ≡ false
no_slash_before name at h s n =
    let e : drop at name ≡ slice_index name at ∷ drop (at + 1) name = grind (arith, common_steps) in
    ap has_slash e ∙ rw (s, n) refl
