-- A written line has printable ASCII characters alone, and what it says is the statement that was written.
use Rattle.std.proofs.Common.{◌≡◌, ℕ, zero, suc, ◌+◌, ◌<◌, ◌≤◌, Bool, true, false, cond, not, List, [], ◌∷◌, ◌++◌, replicate, Some, None, Ok, refl, ◌∙◌, arith, rules}
use Rattle.std.specs.Prelude.{◌==◌, nat_lt, nat_le, ◌/◌, ◌%◌, flat_map, IsAscii}
use Rattle.std.specs.Str.{is_utf8}
use Rattle.std.specs.List.{list_all}
use Rattle.std.proofs.lemmas.Bool.{ltb-true, eqb-true, leb-true, le-leb}
use Rattle.std.proofs.lemmas.Str.{chars-IsAscii, IsUtf8-from_ascii, is_utf8-from_IsUtf8}
use Rattle.mvm_statement.specs.Tokens.{is_letter, is_word, is_writable, is_printable, hex_digit, spelled_unit, spelled_token, behind_blank, spelled_tokens, tokens, tokens_from}
use Rattle.mvm_statement.specs.Statements.{tokens_say, spelled, is_good, line_says, text_of}
use Rattle.mvm_statement.specs.declared.token.Token.{Token}
use Rattle.mvm_statement.specs.declared.token.Token.TheVariants.{Bare, Quoted, Broken}
use Rattle.mvm_statement.specs.declared.statement.Statement.{Statement}
use Rattle.mvm_statement.proofs.Tests.{both, and_again}
use Rattle.mvm_statement.proofs.TokensBack.{tokens_back, framed_back, indented_back, comment_back, word_same}
use Rattle.mvm_statement.proofs.StatementsBack.{statement_back, statement_written}

-- ---- written lines have printable characters alone

plain_is : (c : ℕ) → 32 ≤ c → c ≤ 126 → is_printable c ≡ true
plain_is c a b = and_again _ _ (le-leb 32 c a) (le-leb c 126 b)

plain_joined : (xs ys : List ℕ) → list_all is_printable xs ≡ true → list_all is_printable ys ≡ true → list_all is_printable (xs ++ ys) ≡ true
plain_joined [] ys p q = q
plain_joined (x ∷ xs) ys p q = let a = both (is_printable x) _ p in and_again _ _ a.0 (plain_joined xs ys a.1 q)

letters_plain : (w : List ℕ) → list_all is_letter w ≡ true → list_all is_printable w ≡ true
letters_plain [] h = refl
letters_plain (c ∷ cs) h =
    let a = both (is_letter c) _ h in
    let b = both (nat_lt 32 c) _ a.0 in
    let low : 32 < c = ltb-true 32 c b.0 in
    let high : c < 127 = ltb-true c 127 b.1 in
    and_again _ _ (plain_is c (omega arith) (omega arith)) (letters_plain cs a.1)

word_plain : (w : List ℕ) → is_word w ≡ true → list_all is_printable w ≡ true
word_plain [] h = absurd cc
word_plain (c ∷ cs) h = let a = both (not (c == 34)) _ h in let b = both (not (c == 59)) _ a.1 in letters_plain (c ∷ cs) b.1

hex_plain : (d : ℕ) → d < 16 → is_printable (hex_digit d) ≡ true
hex_plain d h = by (nat_lt d 10) refl
  where
    by : (b : Bool) → nat_lt d 10 ≡ b → is_printable (cond b (48 + d) (55 + d)) ≡ true
    by true t = plain_is (48 + d) (omega arith) (omega arith)
    by false t = plain_is (55 + d) (omega arith) (omega arith)

unit_plain : (u : ℕ) → u < 65536 → list_all is_printable (spelled_unit u) ≡ true
unfolding spelled_unit
unit_plain u h = by (u == 34) refl (u == 92) refl (is_printable u) refl
  where
    by : (a : Bool) → (u == 34) ≡ a → (b : Bool) → (u == 92) ≡ b → (c : Bool) → is_printable u ≡ c → list_all is_printable (spelled_unit u) ≡ true
    by true a b e c p = let k = eqb-true u 34 a in rw (a, plain_is u (omega arith) (omega arith)) refl
    by false a true e c p = let k = eqb-true u 92 e in rw (a, e, plain_is u (omega arith) (omega arith)) refl
    by false a false e true p =
        let q = both (nat_le 32 u) _ p in
        let low : 32 ≤ u = leb-true 32 u q.0 in
        let high : u ≤ 126 = leb-true u 126 q.1 in
        rw (a, e, p, plain_is u (omega arith) (omega arith)) refl
    by false a false e false p = rw (a, e, p, hex_plain (u / 4096) (omega arith), hex_plain (u / 256 % 16) (omega arith), hex_plain (u / 16 % 16) (omega arith), hex_plain (u % 16) (omega arith)) refl

units_plain : (us : List ℕ) → list_all (λ u. nat_lt u 65536) us ≡ true → list_all is_printable (flat_map spelled_unit us) ≡ true
units_plain [] h = refl
units_plain (u ∷ us) h = let a = both (nat_lt u 65536) _ h in plain_joined (spelled_unit u) _ (unit_plain u (ltb-true u 65536 a.0)) (units_plain us a.1)

token_plain : (t : Token) → is_writable t ≡ true → list_all is_printable (spelled_token t) ≡ true
token_plain (Bare w) h = rw (word_same w h) (word_plain w h)
token_plain (Quoted us) h = plain_joined (flat_map spelled_unit us) (34 ∷ []) (units_plain us h) refl
token_plain Broken h = absurd cc

rest_plain : (ts : List Token) → list_all is_writable ts ≡ true → list_all is_printable (flat_map behind_blank ts) ≡ true
rest_plain [] h = refl
rest_plain (t ∷ ts) h = let a = both (is_writable t) _ h in plain_joined (behind_blank t) (flat_map behind_blank ts) (and_again _ _ refl (token_plain t a.0)) (rest_plain ts a.1)

line_plain : (ts : List Token) → list_all is_writable ts ≡ true → list_all is_printable (spelled_tokens ts) ≡ true
line_plain [] h = refl
line_plain (t ∷ ts) h = let a = both (is_writable t) _ h in plain_joined (spelled_token t) (flat_map behind_blank ts) (token_plain t a.0) (rest_plain ts a.1)

pub plain_ascii : (text : List ℕ) → list_all is_printable text ≡ true → IsAscii text
plain_ascii [] h i = search rules
plain_ascii (c ∷ cs) h zero = let a = both (is_printable c) _ h in let b : c ≤ 126 = leb-true c 126 (both (nat_le 32 c) _ a.0).1 in omega arith
plain_ascii (c ∷ cs) h (suc i) = plain_ascii cs (both (is_printable c) _ h).1 i

pub text_plain : (s : Statement) → is_good s ≡ true → list_all is_printable (text_of s) ≡ true
text_plain s h = line_plain (spelled s) (statement_written s h)

-- ---- what a written line says

plain_says : (text : List ℕ) (ts : List Token) → list_all is_printable text ≡ true → tokens text ≡ ts → line_says text ≡ tokens_say ts
unfolding line_says
plain_says text ts h e =
    let a = plain_ascii text h in
    let u : is_utf8 text ≡ true = is_utf8-from_IsUtf8 text (IsUtf8-from_ascii text a) in
    rw (u, chars-IsAscii text a, e) refl

pub says_back : (s : Statement) → is_good s ≡ true → line_says (text_of s) ≡ Ok (Some s)
says_back s h = plain_says (text_of s) (spelled s) (text_plain s h) (tokens_back (spelled s) (statement_written s h)) ∙ statement_back s h

blanks_plain : (depth : ℕ) (text : List ℕ) → list_all is_printable text ≡ true → list_all is_printable (replicate depth 32 ++ text) ≡ true
blanks_plain zero text h = h
blanks_plain (suc depth) text h = and_again _ _ refl (blanks_plain depth text h)

pub indented_says : (s : Statement) (depth : ℕ) → is_good s ≡ true → line_says (replicate depth 32 ++ text_of s) ≡ Ok (Some s)
indented_says s depth h =
    plain_says (replicate depth 32 ++ text_of s) (spelled s) (blanks_plain depth (text_of s) (text_plain s h)) (indented_back depth (spelled s) (statement_written s h)) ∙ statement_back s h

pub framed_says : (s : Statement) (depth : ℕ) (remark : List ℕ) → is_good s ≡ true → list_all is_printable remark ≡ true → line_says (replicate depth 32 ++ (text_of s ++ 32 ∷ 59 ∷ 32 ∷ remark)) ≡ Ok (Some s)
framed_says s depth remark h r =
    let p = plain_joined (text_of s) (32 ∷ 59 ∷ 32 ∷ remark) (text_plain s h) r in
    plain_says (replicate depth 32 ++ (text_of s ++ 32 ∷ 59 ∷ 32 ∷ remark)) (spelled s) (blanks_plain depth _ p) (framed_back depth (spelled s) remark (statement_written s h)) ∙ statement_back s h

nothing_said : tokens_say [] ≡ Ok None
unfolding tokens_say
nothing_said = refl

pub empty_says : line_says [] ≡ Ok None
unfolding tokens_from
empty_says = plain_says [] [] refl refl ∙ nothing_said

pub comment_says : (remark : List ℕ) → list_all is_printable remark ≡ true → line_says (59 ∷ 32 ∷ remark) ≡ Ok None
comment_says remark r = plain_says (59 ∷ 32 ∷ remark) [] r (comment_back remark) ∙ nothing_said
