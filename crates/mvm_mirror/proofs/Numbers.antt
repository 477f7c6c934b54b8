-- Classes by number are classes by name.
use Rattle.std.proofs.Common.{◌≡◌, ℕ, zero, suc, ◌<◌, List, [], ◌∷◌, ◌++◌, length, Bool, true, false, cond, Option, Some, None, refl, sym, ap, ◌∙◌, arith}
use Rattle.std.specs.Option.{option_map}
use Rattle.std.specs.Str.{bytes_eq}
use Rattle.std.proofs.lemmas.Slice.Eq.{bytes_eq-Decides}
use Rattle.mvm_layout.specs.Pool.{is_text}
use Rattle.mvm_set.specs.Names.{own_name, is_called}
use Rattle.mvm_set.specs.declared.class.Lineage.{Lineage}
use Rattle.mvm_mirror.specs.Seen.{number_of}

pub same : (x y : List ℕ) → bytes_eq x y ≡ true → x ≡ y
same x y e = (bytes_eq-Decides x y).0 e

pub itself : (x : List ℕ) → bytes_eq x x ≡ true
itself x = (bytes_eq-Decides x x).1 refl

-- ---- names

pub named : (name : List ℕ) (own : Option (List ℕ)) → is_text name own ≡ true → own ≡ Some name
named name (Some text) e = ap (λ (t : List ℕ). Some t) (same text name e)
named name None e = absurd cc

pub called_same : (one other : List ℕ) (own : Option (List ℕ)) → is_text one own ≡ true → is_text other own ≡ true → one ≡ other
called_same one other (Some text) e h = sym (same text one e) ∙ same text other h
called_same one other None e h = absurd cc

pub is_called_so : (name : List ℕ) (own : Option (List ℕ)) → own ≡ Some name → is_text name own ≡ true
is_called_so name own e = rw e (itself name)

-- ---- one step

pub first : (b : Bool) (r : Option ℕ) → cond b (Some zero) (option_map suc r) ≡ Some zero → b ≡ true
first true r e = refl
first false (Some k) e = absurd (let h : suc k ≡ zero = cc in omega arith)
first false None e = absurd cc

pub later : (b : Bool) (r : Option ℕ) (n : ℕ) → cond b (Some zero) (option_map suc r) ≡ Some (suc n) → (b ≡ false) × (r ≡ Some n)
later true r n e = absurd (let h : zero ≡ suc n = cc in omega arith)
later false (Some k) n e = let h : suc k ≡ suc n = cc in (refl, ap (λ (i : ℕ). Some i) (omega arith))
later false None n e = absurd cc

none : (b : Bool) (r : Option ℕ) → cond b (Some zero) (option_map suc r) ≡ None → (b ≡ false) × (r ≡ None)
none true r e = absurd cc
none false (Some k) e = absurd cc
none false None e = (refl, refl)

-- ---- all classes

-- two names of one number are one name
pub number_same : (one other : List ℕ) (cs : List Lineage) (n : ℕ) → number_of one cs ≡ Some n → number_of other cs ≡ Some n → one ≡ other
number_same one other [] n e h = absurd cc
number_same one other (c ∷ cs) zero e h = called_same one other (own_name c.file) (first _ _ e) (first _ _ h)
number_same one other (c ∷ cs) (suc n) e h = number_same one other cs n (later _ _ n e).1 (later _ _ n h).1

pub number_below : (name : List ℕ) (cs : List Lineage) (n : ℕ) → number_of name cs ≡ Some n → n < length cs
number_below name [] n e = absurd cc
number_below name (c ∷ cs) zero e = omega arith
number_below name (c ∷ cs) (suc n) e = omega (arith, number_below name cs n (later _ _ n e).1)

-- ---- one class more

abbrev pub number_or : Option ℕ → Bool → ℕ → Option ℕ
number_or (Some n) b count = Some n
number_or None true count = Some count
number_or None false count = None

one_more : (r : Option ℕ) (b : Bool) (count : ℕ) → option_map suc (number_or r b count) ≡ number_or (option_map suc r) b (suc count)
one_more (Some n) b count = refl
one_more None true count = refl
one_more None false count = refl

pub number_push : (name : List ℕ) (cs : List Lineage) (c : Lineage) → number_of name (cs ++ c ∷ []) ≡ number_or (number_of name cs) (is_called name c.file) (length cs)
number_push name [] c = by (is_called name c.file)
  where
    by : (b : Bool) → cond b (Some zero) (option_map suc None) ≡ number_or None b 0
    by true = refl
    by false = refl
number_push name (d ∷ cs) c = ap (λ (r : Option ℕ). cond (is_called name d.file) (Some zero) (option_map suc r)) (number_push name cs c) ∙ by (is_called name d.file)
  where
    by : (b : Bool) → cond b (Some zero) (option_map suc (number_or (number_of name cs) (is_called name c.file) (length cs))) ≡ number_or (cond b (Some zero) (option_map suc (number_of name cs))) (is_called name c.file) (length (d ∷ cs))
    by true = refl
    by false = one_more (number_of name cs) (is_called name c.file) (length cs)
