-- What a line says, and the line of a statement.
use Rattle.std.specs.Prelude.{ℕ, List, [], ◌∷◌, ◌++◌, Bool, true, ◌&&◌, if◌then◌else◌, Option, Some, None, Result, Ok, Err, option_map, option_and_then, codes, chars}
use Rattle.std.specs.Str.{is_utf8}
use Rattle.mvm_statement.specs.Tokens.{is_word, tokens, spelled_tokens}
use Rattle.mvm_statement.specs.Operands.{Kind, number, reference, initial, place, is_bare, or_word}
use Rattle.mvm_statement.specs.Lines.{nothing, one, two, three, four, both_of}
use Rattle.mvm_statement.specs.Words.{word_of, head_of, shape_of}
use Rattle.mvm_statement.specs.Values.{kind_in, kind_word, kind_of, value_in, spelled_value, is_good_value}
use Rattle.mvm_statement.specs.Instructions.{instruction_in, spelled_instruction, is_good_instruction}
use Rattle.mvm_statement.specs.declared.fault.AsmKind.{AsmKind}
use Rattle.mvm_statement.specs.declared.fault.AsmKind.TheVariants.{Word, Operand}
use Rattle.mvm_statement.specs.declared.token.Token.{Token}
use Rattle.mvm_statement.specs.declared.token.Token.TheVariants.{Bare}
use Rattle.mvm_statement.specs.declared.operand.Reference.{Reference}
use Rattle.mvm_statement.specs.declared.operand.Initial.{Initial}
use Rattle.mvm_statement.specs.declared.words.Directive.{Directive}
use Rattle.mvm_statement.specs.declared.words.Directive.TheVariants.{Version, Entry, Class, Implements, Field, Method, Code, Byte, Catch, End}
use Rattle.mvm_statement.specs.declared.words.Head.{Head}
use Rattle.mvm_statement.specs.declared.words.Head.TheVariants as heads
use Rattle.mvm_statement.specs.declared.statement.Statement.{Statement}
use Rattle.mvm_statement.specs.declared.statement.Statement.TheVariants as lines

-- ---- as they are read

-- the superclass, which may be `none`
abbrev pub super_class : Kind (Option Reference)
super_class = or_word (codes "none") reference

-- the class that a row catches, which may be `any`
abbrev pub caught : Kind (Option Reference)
caught = or_word (codes "any") reference

-- N KIND VALUES
abbrev pub entry_in : List Token → Option Statement
entry_in [] = None
entry_in (t ∷ []) = None
entry_in (t ∷ (u ∷ ts)) = option_map (λ x. lines.Entry x.0 x.1) (both_of (number.read t) (option_and_then (λ kind. value_in kind ts) (kind_in u)))

-- nothing, or `constant VALUE`
abbrev pub constant_in : List Token → Option (Option Initial)
constant_in [] = Some None
constant_in (t ∷ []) = None
constant_in (t ∷ (u ∷ [])) = if is_bare (codes "constant") t then option_map Some (initial.read u) else None
constant_in (t ∷ (u ∷ (v ∷ ts))) = None

-- FLAGS NAME DESC, and what may stand behind them
abbrev pub field_in : List Token → Option Statement
field_in [] = None
field_in (t ∷ []) = None
field_in (t ∷ (u ∷ [])) = None
field_in (t ∷ (u ∷ (v ∷ ts))) =
    option_map (λ x. lines.Field x.0.0 x.0.1.0 x.0.1.1 x.1) (both_of ((three number reference reference).read (t ∷ (u ∷ (v ∷ [])))) (constant_in ts))

-- behind the word of a directive
abbrev pub directed : Directive → List Token → Option Statement
directed Version ts = option_map (λ x. lines.Version x.0 x.1) ((two number number).read ts)
directed Entry ts = entry_in ts
directed Class ts = option_map (λ x. lines.Class x.0 x.1.0 x.1.1) ((three number reference super_class).read ts)
directed Implements ts = option_map lines.Implements ((one reference).read ts)
directed Field ts = field_in ts
directed Method ts = option_map (λ x. lines.Method x.0 x.1.0 x.1.1) ((three number reference reference).read ts)
directed Code ts = option_map (λ x. lines.Code x.0 x.1) ((two number number).read ts)
directed Byte ts = option_map lines.Byte ((one number).read ts)
directed Catch ts = option_map (λ x. lines.Catch x.0 x.1.0 x.1.1.0 x.1.1.1) ((four place place place caught).read ts)
directed End ts = option_map (λ x. lines.End) (nothing.read ts)

-- behind the first word
abbrev pub statement_of : Head → List Token → Option Statement
statement_of (heads.Directive directive) ts = directed directive ts
statement_of (heads.Label name) ts = option_map (λ x. lines.Label name) (nothing.read ts)
statement_of (heads.Instruction op) ts = option_map lines.Instruction (instruction_in op (shape_of op) ts)

abbrev pub or_operand : Option Statement → Result Statement AsmKind
or_operand (Some s) = Ok s
or_operand None = Err Operand

abbrev pub behind : Option Head → List Token → Result Statement AsmKind
behind None ts = Err Word
behind (Some head) ts = or_operand (statement_of head ts)

abbrev pub head_in : Token → Option Head
head_in (Bare word) = head_of word
head_in _ = None

abbrev pub some_statement : Result Statement AsmKind → Result (Option Statement) AsmKind
some_statement (Ok s) = Ok (Some s)
some_statement (Err kind) = Err kind

-- what the tokens of a line say: nothing where there is none
unfoldable pub tokens_say : List Token → Result (Option Statement) AsmKind
tokens_say [] = Ok None
tokens_say (t ∷ ts) = some_statement (behind (head_in t) ts)

-- what the bytes of a line say
unfoldable pub line_says : List ℕ → Result (Option Statement) AsmKind
line_says bytes = if is_utf8 bytes then tokens_say (tokens (chars bytes)) else Err Word

-- ---- as they are written

abbrev pub spelled_constant : Option Initial → List Token
spelled_constant None = []
spelled_constant (Some x) = Bare (codes "constant") ∷ initial.spelled x ∷ []

abbrev pub led : Directive → List Token → List Token
led directive ts = Bare (word_of directive) ∷ ts

unfoldable pub spelled : Statement → List Token
spelled (lines.Version minor major) = led Version ((two number number).spelled (minor, major))
spelled (lines.Entry n value) = led Entry (number.spelled n ∷ Bare (kind_word (kind_of value)) ∷ spelled_value value)
spelled (lines.Class flags this super) = led Class ((three number reference super_class).spelled (flags, (this, super)))
spelled (lines.Implements interface) = led Implements ((one reference).spelled interface)
spelled (lines.Field flags name desc constant) = led Field ((three number reference reference).spelled (flags, (name, desc)) ++ spelled_constant constant)
spelled (lines.Method flags name desc) = led Method ((three number reference reference).spelled (flags, (name, desc)))
spelled (lines.Code max_stack max_locals) = led Code ((two number number).spelled (max_stack, max_locals))
spelled (lines.Label name) = Bare (name ++ 58 ∷ []) ∷ []
spelled (lines.Instruction line) = spelled_instruction line
spelled (lines.Byte n) = led Byte ((one number).spelled n)
spelled (lines.Catch start end handler class) = led Catch ((four place place place caught).spelled (start, (end, (handler, class))))
spelled lines.End = led End []

abbrev pub is_good_constant : Option Initial → Bool
is_good_constant None = true
is_good_constant (Some x) = initial.is_good x

-- statements that can be written: names of printable ASCII, numbers below 2^64 in magnitude, opcodes where they belong
unfoldable pub is_good : Statement → Bool
is_good (lines.Version minor major) = (two number number).is_good (minor, major)
is_good (lines.Entry n value) = number.is_good n && is_good_value value
is_good (lines.Class flags this super) = (three number reference super_class).is_good (flags, (this, super))
is_good (lines.Implements interface) = (one reference).is_good interface
is_good (lines.Field flags name desc constant) = (three number reference reference).is_good (flags, (name, desc)) && is_good_constant constant
is_good (lines.Method flags name desc) = (three number reference reference).is_good (flags, (name, desc))
is_good (lines.Code max_stack max_locals) = (two number number).is_good (max_stack, max_locals)
is_good (lines.Label name) = is_word name
is_good (lines.Instruction line) = is_good_instruction line
is_good (lines.Byte n) = (one number).is_good n
is_good (lines.Catch start end handler class) = (four place place place caught).is_good (start, (end, (handler, class)))
is_good lines.End = true

-- the text of a statement, without the end of the line
abbrev pub text_of : Statement → List ℕ
text_of s = spelled_tokens (spelled s)
