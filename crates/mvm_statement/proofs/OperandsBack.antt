-- Operands, read again as they are written: once for each kind.
use Rattle.std.proofs.Common.{◌≡◌, ℕ, suc, ◌<◌, true, false, not, List, [], ◌∷◌, ◌++◌, length, take, drop, Option, Some, None, refl, ap, ◌∙◌, arith, add-one}
use Rattle.std.specs.Prelude.{◌==◌, ℤ, bytes_eq, is_none, option_map}
use Rattle.std.specs.Fmt.{signed_decimal}
use Rattle.std.specs.List.{position_or_len}
use Rattle.std.proofs.lemmas.Bool.{lt-ltb}
use Rattle.mvm_statement.specs.Tokens.{is_word, is_writable}
use Rattle.mvm_statement.specs.Numbers.{numeral, is_short}
use Rattle.mvm_statement.specs.Operands.{Kind, number, quoted, index, reference, member, loadable, long_constant, initial, place, or_word, begins_with, behind_mark, by_number, is_name, cut, has_no, spelled_name, named_member, hash, at_sign, integer_or_class, is_bare, reference_in, spelled_reference, is_good_reference, member_in, spelled_member, is_good_member, loadable_in, spelled_loadable, is_good_loadable, long_in, spelled_long, is_good_long, initial_in, spelled_initial, is_good_initial, place_in, spelled_place, is_good_place, spelled_or, is_good_or}
use Rattle.mvm_statement.specs.declared.operand.Reference.{Reference}
use Rattle.mvm_statement.specs.declared.operand.Reference.TheVariants as references
use Rattle.mvm_statement.specs.declared.operand.Member.{Member}
use Rattle.mvm_statement.specs.declared.operand.Member.TheVariants as members
use Rattle.mvm_statement.specs.declared.operand.Loadable.{Loadable}
use Rattle.mvm_statement.specs.declared.operand.Loadable.TheVariants as loadables
use Rattle.mvm_statement.specs.declared.operand.LongConstant.{LongConstant}
use Rattle.mvm_statement.specs.declared.operand.LongConstant.TheVariants as longs
use Rattle.mvm_statement.specs.declared.operand.Initial.{Initial}
use Rattle.mvm_statement.specs.declared.operand.Initial.TheVariants as initials
use Rattle.mvm_statement.specs.declared.operand.Place.{Place}
use Rattle.mvm_statement.specs.declared.operand.Place.TheVariants as places
use Rattle.mvm_statement.proofs.Tests.{both, is_not}
use Rattle.mvm_statement.proofs.NumbersBack.{numeral_back, number_letters, number_word, number_unmarked}

-- a value that can be written is read again
pub record Back {A : Type 0} (K : Kind A) : Type 0 where
  pub read : (x : A) → K.is_good x ≡ true → K.read (K.spelled x) ≡ Some x
  pub written : (x : A) → K.is_good x ≡ true → is_writable (K.spelled x) ≡ true

-- ---- numbers and texts

pub number_back : Back number
number_back = record { read = numeral_back; written = number_word }

pub quoted_back : Back quoted
quoted_back = record { read = λ units h. refl; written = λ units h. h }

-- ---- behind a mark, or without it

pub by_number_back : {A : Type 0} (mark : ℕ) → (mark == mark) ≡ true → (make : ℤ → A) (other : Option A) (n : ℤ) → is_short n ≡ true → by_number make other (behind_mark mark (mark ∷ signed_decimal n)) ≡ Some (make n)
by_number_back mark m make other n h = rw (m, numeral_back n h) refl

pub unmarked_back : {A : Type 0} (mark : ℕ) (make : ℤ → A) (other : Option A) (word : List ℕ) → begins_with mark word ≡ false → by_number make other (behind_mark mark word) ≡ other
unmarked_back mark make other [] h = refl
unmarked_back mark make other (c ∷ cs) h = rw h refl

pub name_back : {A : Type 0} (mark : ℕ) (make : ℤ → A) (other : Option A) (word : List ℕ) → is_name mark word ≡ true → by_number make other (behind_mark mark word) ≡ other
name_back mark make other word h = unmarked_back mark make other word (is_not _ (both (not (begins_with mark word)) _ h).0)

name_word : (mark : ℕ) (word : List ℕ) → is_name mark word ≡ true → is_word word ≡ true
name_word mark word h = (both (not (begins_with mark word)) _ h).1

pub index_back : Back index
index_back = record { read = λ n h. by_number_back hash refl (λ (n : ℤ). n) None n h; written = number_letters }

pub reference_back : Back reference
reference_back = record { read = read; written = written }
  where
    read : (x : Reference) → is_good_reference x ≡ true → reference_in (spelled_reference x) ≡ Some x
    read (references.Indexed n) h = by_number_back hash refl references.Indexed (Some (references.Named (hash ∷ signed_decimal n))) n h
    read (references.Named name) h = name_back hash references.Indexed (Some (references.Named name)) name h

    written : (x : Reference) → is_good_reference x ≡ true → is_writable (spelled_reference x) ≡ true
    written (references.Indexed n) h = number_letters n h
    written (references.Named name) h = name_word hash name h

pub place_back : Back place
place_back = record { read = read; written = written }
  where
    read : (x : Place) → is_good_place x ≡ true → place_in (spelled_place x) ≡ Some x
    read (places.At n) h = by_number_back at_sign refl places.At (Some (places.Label (at_sign ∷ signed_decimal n))) n h
    read (places.Label name) h = name_back at_sign places.At (Some (places.Label name)) name h

    written : (x : Place) → is_good_place x ≡ true → is_writable (spelled_place x) ≡ true
    written (places.At n) h = number_letters n h
    written (places.Label name) h = name_word at_sign name h

-- ---- constants

plain_number : {A : Type 0} (make : ℤ → A) (other : Option A) (n : ℤ) → is_short n ≡ true → by_number make other (behind_mark hash (signed_decimal n)) ≡ other
plain_number make other n h = unmarked_back hash make other (signed_decimal n) (number_unmarked n h)

is_no_numeral : (o : Option ℤ) → is_none o ≡ true → o ≡ None
is_no_numeral None h = refl
is_no_numeral (Some n) h = absurd cc

pub loadable_back : Back loadable
loadable_back = record { read = read; written = written }
  where
    read : (x : Loadable) → is_good_loadable x ≡ true → loadable_in (spelled_loadable x) ≡ Some x
    read (loadables.Indexed n) h = by_number_back hash refl loadables.Indexed (Some (integer_or_class (numeral (hash ∷ signed_decimal n)) (hash ∷ signed_decimal n))) n h
    read (loadables.Integer n) h = plain_number loadables.Indexed (Some (integer_or_class (numeral (signed_decimal n)) (signed_decimal n))) n h ∙ rw (numeral_back n h) refl
    read (loadables.Text units) h = refl
    read (loadables.Class name) h =
        let a = both (is_none (numeral name)) _ h in
        name_back hash loadables.Indexed (Some (integer_or_class (numeral name) name)) name a.1 ∙ rw (is_no_numeral (numeral name) a.0) refl

    written : (x : Loadable) → is_good_loadable x ≡ true → is_writable (spelled_loadable x) ≡ true
    written (loadables.Indexed n) h = number_letters n h
    written (loadables.Integer n) h = number_word n h
    written (loadables.Text units) h = h
    written (loadables.Class name) h = name_word hash name (both (is_none (numeral name)) _ h).1

pub long_back : Back long_constant
long_back = record { read = read; written = written }
  where
    read : (x : LongConstant) → is_good_long x ≡ true → long_in (spelled_long x) ≡ Some x
    read (longs.Indexed n) h = by_number_back hash refl longs.Indexed (option_map longs.Long (numeral (hash ∷ signed_decimal n))) n h
    read (longs.Long n) h = plain_number longs.Indexed (option_map longs.Long (numeral (signed_decimal n))) n h ∙ rw (numeral_back n h) refl

    written : (x : LongConstant) → is_good_long x ≡ true → is_writable (spelled_long x) ≡ true
    written (longs.Indexed n) h = number_letters n h
    written (longs.Long n) h = number_word n h

pub initial_back : Back initial
initial_back = record { read = read; written = written }
  where
    read : (x : Initial) → is_good_initial x ≡ true → initial_in (spelled_initial x) ≡ Some x
    read (initials.Indexed n) h = by_number_back hash refl initials.Indexed (option_map initials.Number (numeral (hash ∷ signed_decimal n))) n h
    read (initials.Number n) h = plain_number initials.Indexed (option_map initials.Number (numeral (signed_decimal n))) n h ∙ rw (numeral_back n h) refl
    read (initials.Text units) h = refl

    written : (x : Initial) → is_good_initial x ≡ true → is_writable (spelled_initial x) ≡ true
    written (initials.Indexed n) h = number_letters n h
    written (initials.Number n) h = number_word n h
    written (initials.Text units) h = h

-- ---- members

-- a mark that stands nowhere in front is the first
front_len : (mark : ℕ) → (mark == mark) ≡ true → (front rest : List ℕ) → has_no mark front ≡ true → position_or_len (λ unit. unit == mark) (front ++ mark ∷ rest) ≡ length front
front_len mark m [] rest h = rw m refl
front_len mark m (c ∷ cs) rest h =
    let a = both (not (c == mark)) _ h in
    rw (is_not _ a.0, front_len mark m cs rest a.1) (omega arith)

pub take_front : (front rest : List ℕ) → take (length front) (front ++ rest) ≡ front
take_front [] rest = refl
take_front (c ∷ cs) rest = ap (λ (x : List ℕ). c ∷ x) (take_front cs rest)

drop_front : (mark : ℕ) (front rest : List ℕ) → drop (suc (length front)) (front ++ mark ∷ rest) ≡ rest
drop_front mark [] rest = refl
drop_front mark (c ∷ cs) rest = drop_front mark cs rest

longer : (mark : ℕ) (front rest : List ℕ) → length front < length (front ++ mark ∷ rest)
longer mark [] rest = omega arith
longer mark (c ∷ cs) rest = let l = longer mark cs rest in omega arith

pub cut_back : (mark : ℕ) → (mark == mark) ≡ true → (front rest : List ℕ) → has_no mark front ≡ true → cut mark (front ++ mark ∷ rest) ≡ Some (front, rest)
cut_back mark m front rest h =
    rw (front_len mark m front rest h, lt-ltb (length front) (length (front ++ mark ∷ rest)) (longer mark front rest), take_front front (mark ∷ rest), add-one, drop_front mark front rest) refl

pub member_back : Back member
member_back = record { read = read; written = written }
  where
    read : (x : Member) → is_good_member x ≡ true → member_in (spelled_member x) ≡ Some x
    read (members.Indexed n) h = by_number_back hash refl members.Indexed (named_member (hash ∷ signed_decimal n)) n h
    read (members.Named class name desc) h =
        let a = both (has_no 46 class) _ h in
        let b = both (has_no 58 name) _ a.1 in
        let first = cut_back 46 refl class (name ++ 58 ∷ desc) a.0 in
        let second = cut_back 58 refl name desc b.0 in
        name_back hash members.Indexed (named_member (spelled_name class name desc)) (spelled_name class name desc) b.1 ∙ rw (first, second) refl

    written : (x : Member) → is_good_member x ≡ true → is_writable (spelled_member x) ≡ true
    written (members.Indexed n) h = number_letters n h
    written (members.Named class name desc) h =
        let a = both (has_no 46 class) _ h in
        let b = both (has_no 58 name) _ a.1 in
        name_word hash (spelled_name class name desc) b.1

-- ---- a word in the place of an operand

pub or_word_back : {A : Type 0} (word : List ℕ) (K : Kind A) → bytes_eq word word ≡ true → Back K → Back (or_word word K)
or_word_back {A} word K same k = record { read = read; written = written }
  where
    read : (x : Option A) → is_good_or word K x ≡ true → (or_word word K).read (spelled_or word K.spelled x) ≡ Some x
    read None h = rw same refl
    read (Some x) h = let a = both (not (is_bare word (K.spelled x))) _ h in rw (is_not _ a.0, k.read x a.1) refl

    written : (x : Option A) → is_good_or word K x ≡ true → is_writable (spelled_or word K.spelled x) ≡ true
    written None h = h
    written (Some x) h = k.written x (both (not (is_bare word (K.spelled x))) _ h).1
