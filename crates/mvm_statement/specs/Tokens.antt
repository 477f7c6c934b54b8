-- A line and its tokens. Tokens stand between blanks; `;` as a token begins a comment; a quoted text has the escapes \" \\ and
-- \uXXXX, and blanks may stand in it. A token is kept in units of UTF-16.
use Rattle.std.specs.Prelude.{ℕ, zero, suc, ◌+◌, ◌*◌, ◌/◌, ◌%◌, ◌-◌, List, [], ◌∷◌, ◌++◌, flat_map, map, Bool, true, false, ◌&&◌, ◌||◌, not, nat_lt, nat_le, ◌==◌, if◌then◌else◌, bytes_eq, Some, None, option_to_list}
use Rattle.std.specs.Char.{digit_value}
use Rattle.std.specs.List.{list_all}
use Rattle.mvm_statement.specs.declared.token.Token.{Token}
use Rattle.mvm_statement.specs.declared.token.Token.TheVariants.{Bare, Quoted, Broken}
use Rattle.mvm_statement.specs.declared.token.Mode.{Mode}
use Rattle.mvm_statement.specs.declared.token.Mode.TheVariants.{Between, InWord, InQuotes, Escaped, InUnit, Closed}
use Rattle.mvm_statement.specs.declared.token.Step.{Step}
use Rattle.mvm_statement.specs.declared.token.Step.TheVariants.{Goes, Gives, Ends}

-- a space or a tab
abbrev pub is_blank : ℕ → Bool
is_blank c = c == 32 || c == 9

-- the units of a character
abbrev pub units_of : ℕ → List ℕ
units_of c = if nat_lt c 65536 then c ∷ [] else (55296 + (c - 65536) / 1024) ∷ (56320 + (c - 65536) % 1024) ∷ []

-- behind a word: a comment begins where it is `;`
abbrev pub word_end : List ℕ → Step
word_end word = if bytes_eq word (59 ∷ []) then Ends None else Gives (Bare word)

-- one more digit of a unit; the last four count
abbrev pub digit_step : Bool → ℕ → ℕ → ℕ → List ℕ → Step
digit_step false more value digit units = Ends (Some Broken)
digit_step true zero value digit units = Goes (InQuotes (units ++ (16 * (value % 4096) + digit) ∷ []))
digit_step true (suc more) value digit units = Goes (InUnit more (16 * (value % 4096) + digit) units)

-- what the next character makes of it
unfoldable pub step : Mode → ℕ → Step
step Between c = if is_blank c then Goes Between else (if c == 34 then Goes (InQuotes []) else Goes (InWord (units_of c)))
step (InWord word) c = if is_blank c then word_end word else Goes (InWord (word ++ units_of c))
step (InQuotes units) c = if c == 34 then Goes (Closed units) else (if c == 92 then Goes (Escaped units) else Goes (InQuotes (units ++ units_of c)))
step (Escaped units) c = if c == 34 || c == 92 then Goes (InQuotes (units ++ c ∷ [])) else (if c == 117 then Goes (InUnit 3 0 units) else Ends (Some Broken))
step (InUnit more value units) c = digit_step (nat_lt (digit_value c) 16) more value (digit_value c) units
step (Closed units) c = if is_blank c then Gives (Quoted units) else Ends (Some Broken)

abbrev pub ended : Step → List Token
ended (Goes mode) = []
ended (Gives token) = token ∷ []
ended (Ends token) = option_to_list token

-- the end of a line ends a word as a blank does, and breaks a quoted text that is not closed
abbrev pub at_end : Mode → List Token
at_end Between = []
at_end (InWord word) = ended (word_end word)
at_end (Closed units) = Quoted units ∷ []
at_end _ = Broken ∷ []

-- the tokens of what is left of a line
unfoldable pub tokens_from : Mode → List ℕ → List Token
tokens_from mode [] = at_end mode
tokens_from mode (c ∷ cs) = elim (step mode c) [ Goes next ↦ tokens_from next cs | Gives token ↦ token ∷ tokens_from Between cs | Ends token ↦ option_to_list token ]

-- the tokens of a line, by its characters
abbrev pub tokens : List ℕ → List Token
tokens line = tokens_from Between line

-- ---- as they are written

-- a printable ASCII character but the blank
abbrev pub is_letter : ℕ → Bool
is_letter c = nat_lt 32 c && nat_lt c 127

-- a unit of a word; one that is no letter can't be written, and stands as `?`
abbrev pub spelled_letter : ℕ → ℕ
spelled_letter unit = if is_letter unit then unit else 63

-- a digit from 0 to 15
abbrev pub hex_digit : ℕ → ℕ
hex_digit d = if nat_lt d 10 then 48 + d else 55 + d

abbrev pub is_printable : ℕ → Bool
is_printable unit = nat_le 32 unit && nat_le unit 126

-- a unit of a quoted text
unfoldable pub spelled_unit : ℕ → List ℕ
spelled_unit u =
    if u == 34 || u == 92 then 92 ∷ u ∷ [] else (
    if is_printable u then u ∷ [] else
    92 ∷ 117 ∷ hex_digit (u / 4096) ∷ hex_digit (u / 256 % 16) ∷ hex_digit (u / 16 % 16) ∷ hex_digit (u % 16) ∷ [])

abbrev pub spelled_word : List ℕ → List ℕ
spelled_word word = map spelled_letter word

abbrev pub spelled_token : Token → List ℕ
spelled_token (Bare word) = spelled_word word
spelled_token (Quoted units) = 34 ∷ flat_map spelled_unit units ++ 34 ∷ []
spelled_token Broken = 34 ∷ []

abbrev pub behind_blank : Token → List ℕ
behind_blank t = 32 ∷ spelled_token t

-- with a blank between each two
abbrev pub spelled_tokens : List Token → List ℕ
spelled_tokens [] = []
spelled_tokens (t ∷ ts) = spelled_token t ++ flat_map behind_blank ts

-- a word that can be written: it has letters alone, one at least, and begins neither as a quoted text nor as a comment
abbrev pub is_word : List ℕ → Bool
is_word [] = false
is_word (c ∷ cs) = not (c == 34) && (not (c == 59) && list_all is_letter (c ∷ cs))

-- a token that can be written
abbrev pub is_writable : Token → Bool
is_writable (Bare word) = is_word word
is_writable (Quoted units) = list_all (λ u. nat_lt u 65536) units
is_writable Broken = false
