-- A word more.
use Rattle.std.proofs.Common.{◌≡◌, ◌<◌, ◌+◌, ℕ, zero, suc, List, [], ◌∷◌, ◌++◌, length, map, take, get_or, Option, Some, None, inl, inr, ap, sym, subst, ◌∙◌, add-one, arith}
use Rattle.std.specs.Prelude.{Contains, IfSome}
use Rattle.std.proofs.lemmas.List.Elements.{All-push, All-weaker, All-nil, Contains-append_left, Contains-push}
use Rattle.mvm_outside.specs.Files.{Files}
use Rattle.mvm_table.specs.Files.{File}
use Rattle.mvm_classes.specs.Words.{path_of, IsOf, AreOf, IsMore}

abbrev IsOfSome : Files → List (List ℕ) → File → Type 0
IsOfSome files words class = (word : List ℕ) × Contains words word × IsOf files word class

abbrev HasClass : Files → List File → List ℕ → Type 0
HasClass files classes word = (bytes : List ℕ) → files (path_of word) ≡ Some bytes → (class : File) × Contains classes class × IsOf files word class

with_file : (files : Files) (words : List (List ℕ)) (classes : List File) (word : List ℕ) (class : File) → AreOf files words classes → IsOf files word class → AreOf files (words ++ word ∷ []) (classes ++ class ∷ [])
with_file files words classes word class a o = record {
  only = All-push (IsOfSome files (words ++ word ∷ [])) classes class
      (All-weaker (IsOfSome files words) (IsOfSome files (words ++ word ∷ [])) (λ other s. (s.0, Contains-append_left words (word ∷ []) s.0 s.1, s.2)) classes a.only)
      (word, Contains-push words word, o);
  all = All-push (HasClass files (classes ++ class ∷ [])) words word
      (All-weaker (HasClass files classes) (HasClass files (classes ++ class ∷ [])) (λ other h. λ bytes e. let found = h bytes e in (found.0, Contains-append_left classes (class ∷ []) found.0 found.1, found.2)) words a.all)
      (λ bytes e. (class, Contains-push classes class, o));
}

without_file : (files : Files) (words : List (List ℕ)) (classes : List File) (word : List ℕ) → AreOf files words classes → files (path_of word) ≡ None → AreOf files (words ++ word ∷ []) classes
without_file files words classes word a n = record {
  only = All-weaker (IsOfSome files words) (IsOfSome files (words ++ word ∷ [])) (λ other s. (s.0, Contains-append_left words (word ∷ []) s.0 s.1, s.2)) classes a.only;
  all = All-push (HasClass files classes) words word a.all (λ bytes e. absurd (let no = sym n ∙ e in cc));
}

pub word_more : (told : Option Files) (words : List (List ℕ)) (word : List ℕ) (old new : List File)
    → IfSome told (λ files. AreOf files words old) → IfSome told (λ files. IsMore files word old new) → IfSome told (λ files. AreOf files (words ++ word ∷ []) new)
word_more None words word old new a m = tt
word_more (Some files) words word old new a m = by m
  where
    by : IsMore files word old new → AreOf files (words ++ word ∷ []) new
    by (inl (n, e)) = subst (AreOf files (words ++ word ∷ [])) (sym e) (without_file files words old word a n)
    by (inr (class, e, o)) = subst (AreOf files (words ++ word ∷ [])) (sym e) (with_file files words old word class a o)

pub no_words : (told : Option Files) → IfSome told (λ files. AreOf files [] [])
no_words None = tt
no_words (Some files) = record { only = All-nil (IsOfSome files []); all = All-nil (HasClass files []) }

next_suc : {X : Type 0} (read : X → List ℕ) (xs : List X) (i : ℕ) (x : X) → i < length xs → x ≡ get_or xs i x → take (suc i) (map read xs) ≡ take i (map read xs) ++ read x ∷ []
next_suc read [] i x w e = absurd (omega (arith, w))
next_suc read (y ∷ xs) zero x w e = ap (λ other. read other ∷ []) (sym e)
next_suc read (y ∷ xs) (suc i) x w e = ap (λ (words : List (List ℕ)). read y ∷ words) (next_suc read xs i x (omega (arith, w)) e)

pub next_word : {X : Type 0} (read : X → List ℕ) (xs : List X) (i : ℕ) (x : X) → i < length xs → x ≡ get_or xs i x → take (i + 1) (map read xs) ≡ take i (map read xs) ++ read x ∷ []
next_word read xs i x w e = ap (λ (n : ℕ). take n (map read xs)) (add-one i) ∙ next_suc read xs i x w e
