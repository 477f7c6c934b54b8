-- The end of a switch: `default PLACE`.
use Rattle.std.proofs.Common.{◌≡◌, ◌<◌, true, false, List, [], ◌∷◌, ◌++◌, length, Some, None, refl, ap, ◌∙◌, arith}
use Rattle.std.specs.Prelude.{option_map}
use Rattle.mvm_statement.specs.Operands.{is_bare}
use Rattle.mvm_statement.specs.Lines.{before_default, default_word, just_two}
use Rattle.mvm_statement.specs.declared.token.Token.{Token}

two_is : (ts : List Token) (w p : Token) → just_two ts ≡ Some (w, p) → ts ≡ w ∷ p ∷ []
two_is [] w p h = absurd cc
two_is (a ∷ []) w p h = absurd cc
two_is (a ∷ (b ∷ [])) w p h =
    let e : (a, b) ≡ (w, p) = cc in
    ap (λ (x : Token × Token). x.0 ∷ x.1 ∷ []) e
two_is (a ∷ (b ∷ (c ∷ ts))) w p h = absurd cc

pub before_few : (ts : List Token) → length ts < 2 → before_default ts ≡ None
before_few [] h = refl
before_few (a ∷ []) h = refl
before_few (a ∷ (b ∷ ts)) h = absurd (omega arith)

more_before : (t u v : Token) (ts : List Token) → before_default (t ∷ (u ∷ (v ∷ ts))) ≡ option_map (λ x. (t ∷ x.0, x.1)) (before_default (u ∷ (v ∷ ts)))
more_before t u v ts = refl

before_bare : (front : List Token) (w p : Token) → is_bare default_word w ≡ true → before_default (front ++ w ∷ p ∷ []) ≡ Some (front, p)
before_bare [] w p h = rw h refl
before_bare (t ∷ []) w p h = rw h refl
before_bare (t ∷ (u ∷ [])) w p h = rw h refl
before_bare (t ∷ (u ∷ (v ∷ front))) w p h =
    more_before t u v (front ++ w ∷ p ∷ []) ∙ ap (option_map (λ (x : List Token × Token). (t ∷ x.0, x.1))) (before_bare (u ∷ (v ∷ front)) w p h)

before_other : (front : List Token) (w p : Token) → is_bare default_word w ≡ false → before_default (front ++ w ∷ p ∷ []) ≡ None
before_other [] w p h = rw h refl
before_other (t ∷ []) w p h = rw h refl
before_other (t ∷ (u ∷ [])) w p h = rw h refl
before_other (t ∷ (u ∷ (v ∷ front))) w p h =
    more_before t u v (front ++ w ∷ p ∷ []) ∙ ap (option_map (λ (x : List Token × Token). (t ∷ x.0, x.1))) (before_other (u ∷ (v ∷ front)) w p h)

pub ends_bare : (ts front ending : List Token) (w p : Token) → ts ≡ front ++ ending → just_two ending ≡ Some (w, p) → is_bare default_word w ≡ true → before_default ts ≡ Some (front, p)
ends_bare ts front ending w p e two h = ap before_default (e ∙ ap (λ (x : List Token). front ++ x) (two_is ending w p two)) ∙ before_bare front w p h

pub ends_other : (ts front ending : List Token) (w p : Token) → ts ≡ front ++ ending → just_two ending ≡ Some (w, p) → is_bare default_word w ≡ false → before_default ts ≡ None
ends_other ts front ending w p e two h = ap before_default (e ∙ ap (λ (x : List Token). front ++ x) (two_is ending w p two)) ∙ before_other front w p h
