-- The lines of a text, cut behind the first.
use Rattle.std.proofs.Common.{◌≡◌, ℕ, suc, ◌+◌, List, [], ◌∷◌, ◌++◌, length, take, drop, Bool, true, false, Option, Some, None, refl, ap, arith, ◌∙◌, append_assoc, append-nil, sym, zero, ◌<◌, ◌≤◌, ◌-◌, add-one}
use Rattle.std.proofs.lemmas.List.{take_rest}
use Rattle.std.specs.Prelude.{if◌then◌else◌, ◌==◌}
use Rattle.mvm_listing.specs.Assembly.{lines_of, lines_from, last_line}
use Rattle.mvm_asm.specs.Cutting.{line_length, lines_behind}

-- what stands behind the end of a line
abbrev pub after : List ℕ → Option (List ℕ)
after [] = None
after (c ∷ []) = None
after (c ∷ (d ∷ ds)) = Some (d ∷ ds)

pub no_lines : (text : List ℕ) (c : ℕ) → lines_from [] text ≡ lines_behind (after (c ∷ text))
unfolding lines_of
no_lines [] c = refl
no_lines (d ∷ ds) c = refl

abbrev behind : ℕ → List ℕ → List (List ℕ)
behind n text = lines_behind (after (drop n text))

ended_line : (line : List ℕ) (d : ℕ) → last_line (line ++ d ∷ []) ≡ ((line ++ d ∷ []) ++ []) ∷ []
ended_line [] d = refl
ended_line (x ∷ xs) d = ap (λ ys. (x ∷ ys) ∷ []) (sym (append-nil (xs ++ d ∷ [])))

-- the first character of what is left ends the line or not
abbrev step : Bool → List ℕ → ℕ → List ℕ → List (List ℕ)
step t line c cs = elim t [ true ↦ line ∷ lines_from [] cs | false ↦ lines_from (line ++ c ∷ []) cs ]

abbrev so_far : Bool → ℕ → ℕ
so_far t n = if t then 0 else suc n

pub cut_from : (line : List ℕ) (d : ℕ) (text : List ℕ) → lines_from (line ++ d ∷ []) text ≡ ((line ++ d ∷ []) ++ take (line_length text) text) ∷ behind (line_length text) text
cut_from line d [] = ended_line line d
cut_from line d (c ∷ cs) =
    elim (c == 10) as (λ t. step t (line ++ d ∷ []) c cs ≡ ((line ++ d ∷ []) ++ take (so_far t (line_length cs)) (c ∷ cs)) ∷ behind (so_far t (line_length cs)) (c ∷ cs)) [
      | true ↦ rw append-nil (ap (λ x. (line ++ d ∷ []) ∷ x) (no_lines cs c))
      | false ↦ cut_from (line ++ d ∷ []) c cs ∙ rw append_assoc refl
    ]

pub cut_first : (text : List ℕ) → lines_of text ≡ take (line_length text) text ∷ behind (line_length text) text
unfolding lines_of
cut_first [] = refl
cut_first (c ∷ cs) =
    elim (c == 10) as (λ t. step t [] c cs ≡ take (so_far t (line_length cs)) (c ∷ cs) ∷ behind (so_far t (line_length cs)) (c ∷ cs)) [
      | true ↦ ap (λ x. [] ∷ x) (no_lines cs c)
      | false ↦ cut_from [] c cs
    ]

more_behind : (n : ℕ) (text : List ℕ) → 1 < length text - n → after (drop n text) ≡ Some (drop (suc n) text)
more_behind n [] h = absurd (omega arith)
more_behind zero (c ∷ []) h = absurd (omega arith)
more_behind zero (c ∷ (d ∷ ds)) h = refl
more_behind (suc n) (c ∷ cs) h = more_behind n cs (omega arith)

none_behind : (n : ℕ) (text : List ℕ) → length text - n ≤ 1 → after (drop n text) ≡ None
none_behind zero [] h = refl
none_behind (suc n) [] h = refl
none_behind zero (c ∷ []) h = refl
none_behind zero (c ∷ (d ∷ ds)) h = absurd (omega arith)
none_behind (suc n) (c ∷ cs) h = none_behind n cs (omega arith)

pub cut_more : (text : List ℕ) (n : ℕ) → n ≡ line_length text → 1 < length text - n → lines_of text ≡ take n text ∷ lines_of (take (length text - (n + 1)) (drop (n + 1) text))
cut_more text n e h =
    let lines : lines_of text ≡ take n text ∷ behind n text = rw e (cut_first text) in
    rw (take_rest, add-one) (lines ∙ ap (λ x. take n text ∷ lines_behind x) (more_behind n text h))

pub cut_last : (text : List ℕ) (n : ℕ) → n ≡ line_length text → length text - n ≤ 1 → lines_of text ≡ take n text ∷ []
cut_last text n e h =
    let lines : lines_of text ≡ take n text ∷ behind n text = rw e (cut_first text) in
    lines ∙ ap (λ x. take n text ∷ lines_behind x) (none_behind n text h)
