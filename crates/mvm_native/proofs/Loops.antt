-- Steps of loops over the units of a text.
use Rattle.std.proofs.Common.{◌≡◌, ℕ, ◌+◌, ◌-◌, ◌<◌, ◌≤◌, ℤ, pos, List, [], ◌∷◌, ◌++◌, length, take, drop, get_or, refl, sym, ap, ◌∙◌, arith}
use Rattle.std.proofs.lemmas.List.{take_more, length-drop, get_or-drop, take_all}
use Rattle.std.proofs.lemmas.List.Sums.{fold_more}
use Rattle.mvm_native.specs.Strings.{hashed, hashed_more}

pub hashed_none : pos 0 ≡ hashed []
unfolding hashed
hashed_none = refl

pub hashed_step : (units : List ℕ) (i : ℕ) (h h' : ℤ) (u : ℕ) → i < length units → h ≡ hashed (take i units) → u ≡ get_or units i 0 → h' ≡ hashed_more h u → h' ≡ hashed (take (i + 1) units)
unfolding hashed
hashed_step units i h h' u p e a b = b ∙ ap (λ (x : ℤ). hashed_more x u) e ∙ ap (λ (n : ℕ). hashed_more (hashed (take i units)) n) a ∙ sym (fold_more hashed_more (pos 0) units i 0 p)

pub hashed_whole : (units : List ℕ) (i : ℕ) (h : ℤ) → length units ≤ i → h ≡ hashed (take i units) → h ≡ hashed units
hashed_whole units i h p e = e ∙ ap hashed (take_all i units p)

pub span_step : (units : List ℕ) (start place u : ℕ) → start ≤ place → place < length units → u ≡ get_or units place 0
    → take (place - start) (drop start units) ++ u ∷ [] ≡ take (place + 1 - start) (drop start units)
span_step units start place u s p e =
    let k : place + 1 - start ≡ (place - start) + 1 = omega (arith, s) in
    let j : start + (place - start) ≡ place = omega (arith, s) in
    let within : place - start < length (drop start units) = omega (arith, s, p, length-drop start units) in
    let at : get_or (drop start units) (place - start) 0 ≡ u = get_or-drop start units (place - start) 0 ∙ ap (λ (n : ℕ). get_or units n 0) j ∙ sym e in
    rw (k, take_more (drop start units) (place - start) 0 within, at) refl
