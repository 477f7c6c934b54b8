-- Operands: what a token stands for, how it is read, and how it is written. That the two agree is proved once for each kind.
use Rattle.std.specs.Prelude.{ℕ, ◌+◌, ℤ, List, [], ◌∷◌, ◌++◌, take, drop, Bool, false, ◌&&◌, not, nat_lt, ◌==◌, if◌then◌else◌, Option, Some, None, option_map, option_and_then, is_none, bytes_eq, position}
use Rattle.std.specs.Fmt.{signed_decimal}
use Rattle.std.specs.List.{list_all}
use Rattle.mvm_statement.specs.Tokens.{is_word}
use Rattle.mvm_statement.specs.Numbers.{numeral, is_short}
use Rattle.mvm_statement.specs.declared.token.Token.{Token}
use Rattle.mvm_statement.specs.declared.token.Token.TheVariants.{Bare, Quoted, Broken}
use Rattle.mvm_statement.specs.declared.operand.Reference.{Reference}
use Rattle.mvm_statement.specs.declared.operand.Reference.TheVariants as references
use Rattle.mvm_statement.specs.declared.operand.Member.{Member}
use Rattle.mvm_statement.specs.declared.operand.Member.TheVariants as members
use Rattle.mvm_statement.specs.declared.operand.Loadable.{Loadable}
use Rattle.mvm_statement.specs.declared.operand.Loadable.TheVariants as loadables
use Rattle.mvm_statement.specs.declared.operand.LongConstant.{LongConstant}
use Rattle.mvm_statement.specs.declared.operand.LongConstant.TheVariants as longs
use Rattle.mvm_statement.specs.declared.operand.Initial.{Initial}
use Rattle.mvm_statement.specs.declared.operand.Initial.TheVariants as initials
use Rattle.mvm_statement.specs.declared.operand.Place.{Place}
use Rattle.mvm_statement.specs.declared.operand.Place.TheVariants as places

-- One kind of operand: the value that a token stands for, if it is one of this kind; the token of a value; and which values can
-- be written.
pub record Kind (A : Type 0) : Type 0 where
  pub read : Token → Option A
  pub spelled : A → Token
  pub is_good : A → Bool

-- ---- numbers and texts

abbrev pub number_in : Token → Option ℤ
number_in (Bare word) = numeral word
number_in _ = None

abbrev pub spelled_number : ℤ → Token
spelled_number z = Bare (signed_decimal z)

abbrev pub number : Kind ℤ
number = record { read = number_in; spelled = spelled_number; is_good = is_short }

abbrev pub units_in : Token → Option (List ℕ)
units_in (Quoted units) = Some units
units_in _ = None

abbrev pub are_units : List ℕ → Bool
are_units units = list_all (λ unit. nat_lt unit 65536) units

abbrev pub quoted : Kind (List ℕ)
quoted = record { read = units_in; spelled = Quoted; is_good = are_units }

-- ---- by number, behind a mark, or otherwise

abbrev pub begins_with : ℕ → List ℕ → Bool
begins_with mark [] = false
begins_with mark (c ∷ cs) = c == mark

abbrev pub behind_mark : ℕ → List ℕ → Option (List ℕ)
behind_mark mark [] = None
behind_mark mark (c ∷ cs) = if c == mark then Some cs else None

-- a number behind the mark, or what the word is without it
abbrev pub by_number : {A : Type 0} → (ℤ → A) → Option A → Option (List ℕ) → Option A
by_number make other (Some digits) = option_map make (numeral digits)
by_number make other None = other

-- `#` and a number
abbrev pub hash : ℕ
hash = 35

-- `@` and a number
abbrev pub at_sign : ℕ
at_sign = 64

abbrev pub spelled_index : ℤ → Token
spelled_index n = Bare (hash ∷ signed_decimal n)

-- a word that can be written, and is no number behind the mark
abbrev pub is_name : ℕ → List ℕ → Bool
is_name mark word = not (begins_with mark word) && is_word word

-- ---- entries of the constant pool

abbrev pub index_in : Token → Option ℤ
index_in (Bare word) = by_number (λ n. n) None (behind_mark hash word)
index_in _ = None

-- `#n` alone
abbrev pub index : Kind ℤ
index = record { read = index_in; spelled = spelled_index; is_good = is_short }

abbrev pub reference_in : Token → Option Reference
reference_in (Bare word) = by_number references.Indexed (Some (references.Named word)) (behind_mark hash word)
reference_in _ = None

abbrev pub spelled_reference : Reference → Token
spelled_reference (references.Indexed n) = spelled_index n
spelled_reference (references.Named name) = Bare name

abbrev pub is_good_reference : Reference → Bool
is_good_reference (references.Indexed n) = is_short n
is_good_reference (references.Named name) = is_name hash name

-- `#n`, or a word: the name of a class, or a text that is a name or a descriptor
abbrev pub reference : Kind Reference
reference = record { read = reference_in; spelled = spelled_reference; is_good = is_good_reference }

-- what stands before the first of a mark, and what behind it
abbrev pub cut : ℕ → List ℕ → Option (List ℕ × List ℕ)
cut mark word = option_map (λ place. (take place word, drop (place + 1) word)) (position (λ unit. unit == mark) word)

-- Class.name:desc is cut at its first `.`, and what stands behind that at its first `:`
abbrev pub named_member : List ℕ → Option Member
named_member word = option_and_then (λ x. option_map (λ y. members.Named x.0 y.0 y.1) (cut 58 x.1)) (cut 46 word)

abbrev pub member_in : Token → Option Member
member_in (Bare word) = by_number members.Indexed (named_member word) (behind_mark hash word)
member_in _ = None

abbrev pub spelled_name : List ℕ → List ℕ → List ℕ → List ℕ
spelled_name class name desc = class ++ 46 ∷ (name ++ 58 ∷ desc)

abbrev pub spelled_member : Member → Token
spelled_member (members.Indexed n) = spelled_index n
spelled_member (members.Named class name desc) = Bare (spelled_name class name desc)

abbrev pub has_no : ℕ → List ℕ → Bool
has_no mark word = list_all (λ unit. not (unit == mark)) word

abbrev pub is_good_member : Member → Bool
is_good_member (members.Indexed n) = is_short n
is_good_member (members.Named class name desc) = has_no 46 class && (has_no 58 name && is_name hash (spelled_name class name desc))

-- `#n`, or a member by name
abbrev pub member : Kind Member
member = record { read = member_in; spelled = spelled_member; is_good = is_good_member }

-- ---- constants

abbrev pub integer_or_class : Option ℤ → List ℕ → Loadable
integer_or_class (Some n) word = loadables.Integer n
integer_or_class None word = loadables.Class word

abbrev pub loadable_in : Token → Option Loadable
loadable_in (Bare word) = by_number loadables.Indexed (Some (integer_or_class (numeral word) word)) (behind_mark hash word)
loadable_in (Quoted units) = Some (loadables.Text units)
loadable_in Broken = None

abbrev pub spelled_loadable : Loadable → Token
spelled_loadable (loadables.Indexed n) = spelled_index n
spelled_loadable (loadables.Integer n) = spelled_number n
spelled_loadable (loadables.Text units) = Quoted units
spelled_loadable (loadables.Class name) = Bare name

abbrev pub is_good_loadable : Loadable → Bool
is_good_loadable (loadables.Indexed n) = is_short n
is_good_loadable (loadables.Integer n) = is_short n
is_good_loadable (loadables.Text units) = are_units units
is_good_loadable (loadables.Class name) = is_none (numeral name) && is_name hash name

-- `#n`, a number, a quoted text, or the name of a class, which is any other word
abbrev pub loadable : Kind Loadable
loadable = record { read = loadable_in; spelled = spelled_loadable; is_good = is_good_loadable }

abbrev pub long_in : Token → Option LongConstant
long_in (Bare word) = by_number longs.Indexed (option_map longs.Long (numeral word)) (behind_mark hash word)
long_in _ = None

abbrev pub spelled_long : LongConstant → Token
spelled_long (longs.Indexed n) = spelled_index n
spelled_long (longs.Long n) = spelled_number n

abbrev pub is_good_long : LongConstant → Bool
is_good_long (longs.Indexed n) = is_short n
is_good_long (longs.Long n) = is_short n

-- `#n` or a number
abbrev pub long_constant : Kind LongConstant
long_constant = record { read = long_in; spelled = spelled_long; is_good = is_good_long }

abbrev pub initial_in : Token → Option Initial
initial_in (Bare word) = by_number initials.Indexed (option_map initials.Number (numeral word)) (behind_mark hash word)
initial_in (Quoted units) = Some (initials.Text units)
initial_in Broken = None

abbrev pub spelled_initial : Initial → Token
spelled_initial (initials.Indexed n) = spelled_index n
spelled_initial (initials.Number n) = spelled_number n
spelled_initial (initials.Text units) = Quoted units

abbrev pub is_good_initial : Initial → Bool
is_good_initial (initials.Indexed n) = is_short n
is_good_initial (initials.Number n) = is_short n
is_good_initial (initials.Text units) = are_units units

-- `#n`, a number or a quoted text
abbrev pub initial : Kind Initial
initial = record { read = initial_in; spelled = spelled_initial; is_good = is_good_initial }

-- ---- places in code

abbrev pub place_in : Token → Option Place
place_in (Bare word) = by_number places.At (Some (places.Label word)) (behind_mark at_sign word)
place_in _ = None

abbrev pub spelled_place : Place → Token
spelled_place (places.At n) = Bare (at_sign ∷ signed_decimal n)
spelled_place (places.Label name) = Bare name

abbrev pub is_good_place : Place → Bool
is_good_place (places.At n) = is_short n
is_good_place (places.Label name) = is_name at_sign name

-- `@N` or a label
abbrev pub place : Kind Place
place = record { read = place_in; spelled = spelled_place; is_good = is_good_place }

-- ---- a word in the place of an operand

abbrev pub is_bare : List ℕ → Token → Bool
is_bare word (Bare other) = bytes_eq other word
is_bare word _ = false

abbrev pub spelled_or : {A : Type 0} → List ℕ → (A → Token) → Option A → Token
spelled_or word spelled None = Bare word
spelled_or word spelled (Some x) = spelled x

abbrev pub is_good_or : {A : Type 0} → List ℕ → Kind A → Option A → Bool
is_good_or word K None = is_word word
is_good_or word K (Some x) = not (is_bare word (K.spelled x)) && K.is_good x

-- the word, which stands for none, or an operand
abbrev pub or_word : {A : Type 0} → List ℕ → Kind A → Kind (Option A)
or_word word K = record {
  read = λ t. if is_bare word t then Some None else option_map Some (K.read t);
  spelled = spelled_or word K.spelled;
  is_good = is_good_or word K;
}
