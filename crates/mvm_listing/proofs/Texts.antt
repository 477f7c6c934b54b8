-- The lines of a text that is laid out say what they were laid out for.
use Rattle.std.proofs.Common.{◌≡◌, ℕ, zero, suc, ◌≤◌, Bool, true, false, cond, List, [], ◌∷◌, ◌++◌, map, take, Option, Some, None, Ok, refl, sym, ap, ◌∙◌, arith, append_assoc}
use Rattle.std.specs.Prelude.{◌==◌, nat_le, replicate}
use Rattle.std.specs.List.{list_all}
use Rattle.std.proofs.lemmas.Bool.{leb-true, ne_eqb}
use Rattle.std.proofs.lemmas.List.Folds.{list_all-append}
use Rattle.mvm_layout.specs.declared.parts.Item.{Item}
use Rattle.mvm_statement.specs.Tokens.{is_printable}
use Rattle.mvm_statement.specs.Statements.{is_good, line_says, text_of}
use Rattle.mvm_statement.specs.declared.statement.Statement.{Statement}
use Rattle.mvm_statement.proofs.TextsBack.{text_plain, indented_says, framed_says, empty_says}
use Rattle.mvm_listing.specs.Assembly.{lines_from, lines_of}
use Rattle.mvm_listing.specs.LaidOut.{depth, remark, plain, longest, commented, line_text, any_text, laid_out}
use Rattle.mvm_listing.proofs.Tests.{parts, and_again, append_none}
use Rattle.mvm_listing.proofs.Runs.{said}

-- ---- printable characters

plain_is : (u : ℕ) → is_printable (plain u) ≡ true
plain_is u = by (is_printable u) refl
  where
    by : (b : Bool) → is_printable u ≡ b → is_printable (cond b u 63) ≡ true
    by true t = t
    by false t = refl

all_plain : (us : List ℕ) → list_all is_printable (map plain us) ≡ true
all_plain [] = refl
all_plain (u ∷ us) = and_again _ _ (plain_is u) (all_plain us)

blanks_plain : (n : ℕ) → list_all is_printable (replicate n 32) ≡ true
blanks_plain zero = refl
blanks_plain (suc n) = blanks_plain n

comment_plain : (us : List ℕ) → list_all is_printable (commented us) ≡ true
comment_plain [] = refl
comment_plain (u ∷ us) = all_plain (take longest (u ∷ us))

both_plain : (xs ys : List ℕ) → list_all is_printable xs ≡ true → list_all is_printable ys ≡ true → list_all is_printable (xs ++ ys) ≡ true
both_plain xs ys p q = list_all-append is_printable xs ys ∙ and_again _ _ p q

line_plain : (pool : List Item) (s : Statement) → is_good s ≡ true → list_all is_printable (line_text pool s) ≡ true
line_plain pool s h = both_plain (replicate (depth s) 32) _ (blanks_plain (depth s)) (both_plain (text_of s) (commented (remark pool s)) (text_plain s h) (comment_plain (remark pool s)))

-- ---- what a line says

line_said : (pool : List Item) (s : Statement) → is_good s ≡ true → line_says (line_text pool s) ≡ Ok (Some s)
line_said pool s h = by (remark pool s)
  where
    by : (us : List ℕ) → line_says (replicate (depth s) 32 ++ (text_of s ++ commented us)) ≡ Ok (Some s)
    by [] = ap (λ (t : List ℕ). line_says (replicate (depth s) 32 ++ t)) (append_none (text_of s)) ∙ indented_says s (depth s) h
    by (u ∷ us) = framed_says s (depth s) (map plain (take longest (u ∷ us))) h (all_plain (take longest (u ∷ us)))

-- a line that is empty, or whose statement can be written
abbrev pub is_good_line : Option Statement → Bool
is_good_line None = true
is_good_line (Some s) = is_good s

any_plain : (pool : List Item) (x : Option Statement) → is_good_line x ≡ true → list_all is_printable (any_text pool x) ≡ true
any_plain pool None h = refl
any_plain pool (Some s) h = line_plain pool s h

any_said : (pool : List Item) (x : Option Statement) → is_good_line x ≡ true → line_says (any_text pool x) ≡ said x
any_said pool None h = empty_says
any_said pool (Some s) h = line_said pool s h

-- ---- the lines of a text

line_back : (line text rest : List ℕ) → list_all is_printable text ≡ true → lines_from line (text ++ 10 ∷ rest) ≡ (line ++ text) ∷ lines_from [] rest
line_back line [] rest h = ap (λ (l : List ℕ). l ∷ lines_from [] rest) (sym (append_none line))
line_back line (c ∷ cs) rest h =
    let a = parts (is_printable c) _ h in
    let l : 32 ≤ c = leb-true 32 c (parts (nat_le 32 c) _ a.0).0 in
    let n : (c == 10) ≡ false = ne_eqb c 10 (λ (e : c ≡ 10). omega arith) in
    let more = line_back (line ++ c ∷ []) cs rest a.1 in
    rw (lines_from, n) (more ∙ ap (λ (x : List ℕ). x ∷ lines_from [] rest) (append_assoc line (c ∷ []) cs))

lines_back_from : (pool : List Item) (xs : List (Option Statement)) → list_all is_good_line xs ≡ true → lines_from [] (laid_out pool xs) ≡ map (any_text pool) xs
lines_back_from pool [] h = refl
lines_back_from pool (x ∷ xs) h =
    let a = parts (is_good_line x) _ h in
    let e : (any_text pool x ++ 10 ∷ []) ++ laid_out pool xs ≡ any_text pool x ++ 10 ∷ laid_out pool xs = append_assoc (any_text pool x) (10 ∷ []) (laid_out pool xs) in
    ap (lines_from []) e ∙ line_back [] (any_text pool x) (laid_out pool xs) (any_plain pool x a.0) ∙ ap (λ (ls : List (List ℕ)). any_text pool x ∷ ls) (lines_back_from pool xs a.1)

some_lines : (text : List ℕ) (c : ℕ) (rest : List ℕ) → lines_of ((text ++ c ∷ []) ++ rest) ≡ lines_from [] ((text ++ c ∷ []) ++ rest)
unfolding lines_of
some_lines [] c rest = refl
some_lines (d ∷ ds) c rest = refl

pub lines_back : (pool : List Item) (x : Option Statement) (xs : List (Option Statement)) → list_all is_good_line (x ∷ xs) ≡ true → lines_of (laid_out pool (x ∷ xs)) ≡ map (any_text pool) (x ∷ xs)
lines_back pool x xs h = some_lines (any_text pool x) 10 (laid_out pool xs) ∙ lines_back_from pool (x ∷ xs) h

pub all_said : (pool : List Item) (xs : List (Option Statement)) → list_all is_good_line xs ≡ true → map line_says (map (any_text pool) xs) ≡ map said xs
all_said pool [] h = refl
all_said pool (x ∷ xs) h = let a = parts (is_good_line x) _ h in rw (any_said pool x a.0, all_said pool xs a.1) refl
