-- The tokens of a written line are those that were written.
use Rattle.std.proofs.Common.{◌≡◌, ℕ, zero, suc, ◌+◌, ◌*◌, ◌<◌, ◌≤◌, Bool, true, false, not, List, [], ◌∷◌, ◌++◌, replicate, refl, ap, ◌∙◌, arith, append_assoc}
use Rattle.std.specs.Prelude.{◌||◌, ◌==◌, nat_lt, ◌/◌, ◌%◌, flat_map}
use Rattle.std.specs.List.{list_all}
use Rattle.std.specs.Char.{digit_value}
use Rattle.std.proofs.lemmas.Bool.{ltb-false, le-ltb, lt-ltb, ltb-true, ne_eqb}
use Rattle.mvm_statement.specs.Tokens.{tokens_from, step, word_end, tokens, is_blank, units_of, is_letter, is_word, is_writable, is_printable, hex_digit, spelled_letter, spelled_word, spelled_unit, spelled_token, behind_blank, spelled_tokens}
use Rattle.mvm_statement.specs.declared.token.Token.{Token}
use Rattle.mvm_statement.specs.declared.token.Token.TheVariants.{Bare, Quoted, Broken}
use Rattle.mvm_statement.specs.declared.token.Mode.{Mode}
use Rattle.mvm_statement.specs.declared.token.Mode.TheVariants.{Between, InWord, InQuotes, Escaped, InUnit, Closed}
use Rattle.mvm_statement.specs.declared.token.Step.TheVariants.{Goes, Gives}
use Rattle.mvm_statement.proofs.Tests.{both, is_not, neither, append_none}

-- ---- one character

goes : (mode next : Mode) (c : ℕ) (cs : List ℕ) → step mode c ≡ Goes next → tokens_from mode (c ∷ cs) ≡ tokens_from next cs
unfolding tokens_from
goes mode next c cs h = rw (tokens_from, h) refl

gives : (mode : Mode) (token : Token) (c : ℕ) (cs : List ℕ) → step mode c ≡ Gives token → tokens_from mode (c ∷ cs) ≡ token ∷ tokens_from Between cs
unfolding tokens_from
gives mode token c cs h = rw (tokens_from, h) refl

-- ---- words

letter_not_blank : (c : ℕ) → is_letter c ≡ true → is_blank c ≡ false
letter_not_blank c h =
    let l : 32 < c = ltb-true 32 c (both _ _ h).0 in
    rw (ne_eqb c 32 (λ (e : c ≡ 32). omega arith), ne_eqb c 9 (λ (e : c ≡ 9). omega arith)) refl

letter_units : (c : ℕ) → is_letter c ≡ true → units_of c ≡ c ∷ []
letter_units c h =
    let l : c < 127 = ltb-true c 127 (both (nat_lt 32 c) (nat_lt c 127) h).1 in
    let small : c < 65536 = omega arith in
    rw (lt-ltb c 65536 small) refl

pub letters_same : (word : List ℕ) → list_all is_letter word ≡ true → spelled_word word ≡ word
letters_same [] h = refl
letters_same (c ∷ cs) h =
    let a = both (is_letter c) _ h in
    let e : spelled_letter c ≡ c = rw (a.0) refl in
    rw (e, letters_same cs a.1) refl

pub word_letters : (word : List ℕ) → is_word word ≡ true → list_all is_letter word ≡ true
word_letters [] h = absurd cc
word_letters (c ∷ cs) h = (both _ _ (both (not (c == 34)) _ h).1).1

pub word_same : (word : List ℕ) → is_word word ≡ true → spelled_word word ≡ word
word_same word h = letters_same word (word_letters word h)

word_step : (w : List ℕ) (c : ℕ) → is_letter c ≡ true → step (InWord w) c ≡ Goes (InWord (w ++ c ∷ []))
unfolding step
word_step w c h = rw (letter_not_blank c h, letter_units c h) refl

letters_back : (w cs rest : List ℕ) → list_all is_letter cs ≡ true → tokens_from (InWord w) (cs ++ rest) ≡ tokens_from (InWord (w ++ cs)) rest
letters_back w [] rest h = rw (append_none w) refl
letters_back w (c ∷ cs) rest h =
    let a = both (is_letter c) _ h in
    let s = goes (InWord w) _ c (cs ++ rest) (word_step w c a.0) in
    let m : (w ++ c ∷ []) ++ cs ≡ w ++ c ∷ cs = append_assoc w (c ∷ []) cs in
    s ∙ letters_back (w ++ c ∷ []) cs rest a.1 ∙ ap (λ (x : List ℕ). tokens_from (InWord x) rest) m

first_step : (c : ℕ) → is_letter c ≡ true → (c == 34) ≡ false → step Between c ≡ Goes (InWord (c ∷ []))
unfolding step
first_step c b q = rw (letter_not_blank c b, q, letter_units c b) refl

word_back : (w rest : List ℕ) → is_word w ≡ true → tokens_from Between (w ++ rest) ≡ tokens_from (InWord w) rest
word_back [] rest h = absurd cc
word_back (c ∷ cs) rest h =
    let a = both _ _ h in
    let b = both _ _ a.1 in
    let l = both (is_letter c) _ b.1 in
    goes Between _ c (cs ++ rest) (first_step c l.0 (is_not _ a.0)) ∙ letters_back (c ∷ []) cs rest l.1

word_ends : (w : List ℕ) → is_word w ≡ true → word_end w ≡ Gives (Bare w)
word_ends [] h = absurd cc
word_ends (c ∷ cs) h =
    let a = both _ _ h in
    let b = both _ _ a.1 in
    let n : (c == 59) ≡ false = is_not (c == 59) b.0 in
    rw n refl

-- ---- quoted texts

digit_back : (d : ℕ) → d < 16 → digit_value (hex_digit d) ≡ d
digit_back d h = by (nat_lt d 10) refl
  where
    by : (b : Bool) → nat_lt d 10 ≡ b → digit_value (hex_digit d) ≡ d
    by true t =
        let small : d < 10 = ltb-true _ _ t in
        rw (t, le-ltb (48 + d) 48 (omega arith), lt-ltb (48 + d) 58 (omega arith)) (omega arith)
    by false t =
        let large : 10 ≤ d = ltb-false _ _ t in
        rw (t, le-ltb (55 + d) 48 (omega arith), le-ltb (55 + d) 58 (omega arith), le-ltb (55 + d) 65 (omega arith), lt-ltb (55 + d) 91 (omega arith)) (omega arith)

low : (value : ℕ) → value < 4096 → value % 4096 ≡ value
low value h = omega arith

digit_goes : (more value d : ℕ) (us cs : List ℕ) → d < 16 → value < 4096 → tokens_from (InUnit (suc more) value us) (hex_digit d ∷ cs) ≡ tokens_from (InUnit more (16 * value + d) us) cs
unfolding step
digit_goes more value d us cs h l = goes (InUnit (suc more) value us) (InUnit more (16 * value + d) us) (hex_digit d) cs (rw (digit_back d h, lt-ltb d 16 h, low value l) refl)

last_digit_goes : (value d : ℕ) (us cs : List ℕ) → d < 16 → value < 4096 → tokens_from (InUnit zero value us) (hex_digit d ∷ cs) ≡ tokens_from (InQuotes (us ++ (16 * value + d) ∷ [])) cs
unfolding step
last_digit_goes value d us cs h l = goes (InUnit zero value us) (InQuotes (us ++ (16 * value + d) ∷ [])) (hex_digit d) cs (rw (digit_back d h, lt-ltb d 16 h, low value l) refl)

backslash : (us : List ℕ) → step (InQuotes us) 92 ≡ Goes (Escaped us)
unfolding step
backslash us = refl

unit_begins : (us : List ℕ) → step (Escaped us) 117 ≡ Goes (InUnit 3 0 us)
unfolding step
unit_begins us = refl

escaped : (us : List ℕ) (u : ℕ) → (u == 34 || u == 92) ≡ true → step (Escaped us) u ≡ Goes (InQuotes (us ++ u ∷ []))
unfolding step
escaped us u h = rw h refl

plain : (us : List ℕ) (u : ℕ) → u < 65536 → (u == 34) ≡ false → (u == 92) ≡ false → step (InQuotes us) u ≡ Goes (InQuotes (us ++ u ∷ []))
unfolding step
plain us u h a b = rw (a, b, lt-ltb u 65536 h) refl

unit_back : (us : List ℕ) (u : ℕ) (rest : List ℕ) → u < 65536 → tokens_from (InQuotes us) (spelled_unit u ++ rest) ≡ tokens_from (InQuotes (us ++ u ∷ [])) rest
unfolding spelled_unit
unit_back us u rest h = by (u == 34 || u == 92) refl (is_printable u) refl
  where
    by : (a : Bool) → (u == 34 || u == 92) ≡ a → (b : Bool) → is_printable u ≡ b → tokens_from (InQuotes us) (spelled_unit u ++ rest) ≡ tokens_from (InQuotes (us ++ u ∷ [])) rest
    by true a b t = rw a (goes _ _ 92 (u ∷ rest) (backslash us) ∙ goes _ _ u rest (escaped us u a))
    by false a true t =
        let n = neither _ _ a in
        rw (a, t) (goes _ _ u rest (plain us u h n.0 n.1))
    by false a false t =
        let first = 16 * 0 + u / 4096 in
        let second = 16 * first + u / 256 % 16 in
        let third = 16 * second + u / 16 % 16 in
        let e : 16 * third + u % 16 ≡ u = omega arith in
        rw (a, t) (
        goes (InQuotes us) (Escaped us) 92 _ (backslash us) ∙ goes (Escaped us) (InUnit 3 0 us) 117 _ (unit_begins us)
        ∙ digit_goes 2 0 (u / 4096) us _ (omega arith) (omega arith) ∙ digit_goes 1 first (u / 256 % 16) us _ (omega arith) (omega arith)
        ∙ digit_goes 0 second (u / 16 % 16) us _ (omega arith) (omega arith) ∙ last_digit_goes third (u % 16) us rest (omega arith) (omega arith)
        ∙ ap (λ (x : ℕ). tokens_from (InQuotes (us ++ x ∷ [])) rest) e)

units_back : (us more rest : List ℕ) → list_all (λ u. nat_lt u 65536) more ≡ true → tokens_from (InQuotes us) (flat_map spelled_unit more ++ rest) ≡ tokens_from (InQuotes (us ++ more)) rest
units_back us [] rest h = rw (append_none us) refl
units_back us (u ∷ more) rest h =
    let a = both _ _ h in
    let e : (spelled_unit u ++ flat_map spelled_unit more) ++ rest ≡ spelled_unit u ++ (flat_map spelled_unit more ++ rest) = append_assoc (spelled_unit u) (flat_map spelled_unit more) rest in
    ap (λ (x : List ℕ). tokens_from (InQuotes us) x) e
    ∙ unit_back us u (flat_map spelled_unit more ++ rest) (ltb-true _ _ a.0)
    ∙ units_back (us ++ u ∷ []) more rest a.1
    ∙ ap (λ (x : List ℕ). tokens_from (InQuotes x) rest) (append_assoc us (u ∷ []) more)

quote_begins : step Between 34 ≡ Goes (InQuotes [])
unfolding step
quote_begins = refl

quote_ends : (us : List ℕ) → step (InQuotes us) 34 ≡ Goes (Closed us)
unfolding step
quote_ends us = refl

-- ---- tokens, and lines of them

abbrev behind : Token → Mode
behind (Bare w) = InWord w
behind (Quoted us) = Closed us
behind Broken = Between

token_back : (t : Token) (rest : List ℕ) → is_writable t ≡ true → tokens_from Between (spelled_token t ++ rest) ≡ tokens_from (behind t) rest
token_back (Bare w) rest h = rw (word_same w h) (word_back w rest h)
token_back (Quoted us) rest h =
    let e : (flat_map spelled_unit us ++ 34 ∷ []) ++ rest ≡ flat_map spelled_unit us ++ 34 ∷ rest = append_assoc (flat_map spelled_unit us) (34 ∷ []) rest in
    goes Between _ 34 _ quote_begins
    ∙ ap (λ (x : List ℕ). tokens_from (InQuotes []) x) e
    ∙ units_back [] us (34 ∷ rest) h
    ∙ goes _ _ 34 rest (quote_ends us)
token_back Broken rest h = absurd cc

blank_step : (t : Token) → is_writable t ≡ true → step (behind t) 32 ≡ Gives t
unfolding step
blank_step (Bare w) h = word_ends w h
blank_step (Quoted us) h = refl
blank_step Broken h = absurd cc

last_is : (t : Token) → is_writable t ≡ true → tokens_from (behind t) [] ≡ t ∷ []
unfolding tokens_from
last_is (Bare w) h = rw (word_ends w h) refl
last_is (Quoted us) h = refl
last_is Broken h = absurd cc

rest_back : (t : Token) (ts : List Token) → is_writable t ≡ true → list_all is_writable ts ≡ true → tokens_from (behind t) (flat_map behind_blank ts) ≡ t ∷ ts
rest_back t [] h k = last_is t h
rest_back t (next ∷ more) h k =
    let a = both (is_writable next) _ k in
    gives (behind t) t 32 (spelled_token next ++ flat_map behind_blank more) (blank_step t h)
    ∙ ap (λ (ts : List Token). t ∷ ts) (token_back next (flat_map behind_blank more) a.0 ∙ rest_back next more a.0 a.1)

pub tokens_back : (ts : List Token) → list_all is_writable ts ≡ true → tokens (spelled_tokens ts) ≡ ts
unfolding tokens_from
tokens_back [] h = refl
tokens_back (t ∷ ts) h =
    let a = both (is_writable t) _ h in
    token_back t (flat_map behind_blank ts) a.0 ∙ rest_back t ts a.0 a.1

-- ---- a line with blanks in front and a comment behind

blank_between : step Between 32 ≡ Goes Between
unfolding step
blank_between = refl

indented : (depth : ℕ) (cs : List ℕ) → tokens_from Between (replicate depth 32 ++ cs) ≡ tokens_from Between cs
indented zero cs = refl
indented (suc depth) cs = goes Between Between 32 (replicate depth 32 ++ cs) blank_between ∙ indented depth cs

comment_begins : step Between 59 ≡ Goes (InWord (59 ∷ []))
unfolding step
comment_begins = refl

comment_ends : (remark : List ℕ) → tokens_from (InWord (59 ∷ [])) (32 ∷ remark) ≡ []
unfolding tokens_from step
comment_ends remark = refl

pub comment_back : (remark : List ℕ) → tokens_from Between (59 ∷ 32 ∷ remark) ≡ []
comment_back remark = goes Between (InWord (59 ∷ [])) 59 (32 ∷ remark) comment_begins ∙ comment_ends remark

remark_back : (t : Token) (ts : List Token) (remark : List ℕ) → is_writable t ≡ true → list_all is_writable ts ≡ true → tokens_from (behind t) (flat_map behind_blank ts ++ 32 ∷ 59 ∷ 32 ∷ remark) ≡ t ∷ ts
remark_back t [] remark h k = gives (behind t) t 32 (59 ∷ 32 ∷ remark) (blank_step t h) ∙ ap (λ (ts : List Token). t ∷ ts) (comment_back remark)
remark_back t (next ∷ more) remark h k =
    let a = both (is_writable next) _ k in
    let rest = flat_map behind_blank more ++ 32 ∷ 59 ∷ 32 ∷ remark in
    let e : (spelled_token next ++ flat_map behind_blank more) ++ 32 ∷ 59 ∷ 32 ∷ remark ≡ spelled_token next ++ rest = append_assoc (spelled_token next) (flat_map behind_blank more) (32 ∷ 59 ∷ 32 ∷ remark) in
    gives (behind t) t 32 ((spelled_token next ++ flat_map behind_blank more) ++ 32 ∷ 59 ∷ 32 ∷ remark) (blank_step t h)
    ∙ ap (λ (ts : List Token). t ∷ ts) (ap (tokens_from Between) e ∙ token_back next rest a.0 ∙ remark_back next more remark a.0 a.1)

remarked : (ts : List Token) (remark : List ℕ) → list_all is_writable ts ≡ true → tokens_from Between (spelled_tokens ts ++ 32 ∷ 59 ∷ 32 ∷ remark) ≡ ts
remarked [] remark h = goes Between Between 32 (59 ∷ 32 ∷ remark) blank_between ∙ comment_back remark
remarked (t ∷ ts) remark h =
    let a = both (is_writable t) _ h in
    let rest = flat_map behind_blank ts ++ 32 ∷ 59 ∷ 32 ∷ remark in
    let e : (spelled_token t ++ flat_map behind_blank ts) ++ 32 ∷ 59 ∷ 32 ∷ remark ≡ spelled_token t ++ rest = append_assoc (spelled_token t) (flat_map behind_blank ts) (32 ∷ 59 ∷ 32 ∷ remark) in
    ap (tokens_from Between) e ∙ token_back t rest a.0 ∙ remark_back t ts remark a.0 a.1

pub framed_back : (depth : ℕ) (ts : List Token) (remark : List ℕ) → list_all is_writable ts ≡ true → tokens (replicate depth 32 ++ (spelled_tokens ts ++ 32 ∷ 59 ∷ 32 ∷ remark)) ≡ ts
framed_back depth ts remark h = indented depth (spelled_tokens ts ++ 32 ∷ 59 ∷ 32 ∷ remark) ∙ remarked ts remark h

pub indented_back : (depth : ℕ) (ts : List Token) → list_all is_writable ts ≡ true → tokens (replicate depth 32 ++ spelled_tokens ts) ≡ ts
indented_back depth ts h = indented depth (spelled_tokens ts) ∙ tokens_back ts h
