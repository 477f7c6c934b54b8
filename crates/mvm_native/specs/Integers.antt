-- What Integer.parseInt does (Java SE 8 API, java.lang.Integer). Digits are those of ASCII alone.
use Rattle.std.specs.Prelude.{ℕ, ◌+◌, ◌-◌, ◌*◌, ◌^◌, ℤ, pos, negsuc, neg_ℤ, List, [], ◌∷◌, Bool, ◌&&◌, ◌==◌, nat_lt, nat_le, Option, Some, None, if◌then◌else◌}
use Rattle.mvm_base.specs.declared.value.Word.{Word}
use Rattle.mvm_base.specs.declared.value.Word.TheVariants.{Int, Ref}
use Rattle.mvm_heap.specs.Objects.{Object}
use Rattle.mvm_native.specs.declared.out.Out.{Out}
use Rattle.mvm_native.specs.declared.out.Out.TheVariants.{Throw}
use Rattle.mvm_native.specs.declared.out.Thrown.TheVariants.{NumberFormatException}
use Rattle.mvm_native.specs.Machine.{Machine, gives}
use Rattle.mvm_native.specs.Texts.{units_at}

abbrev pub is_digit : ℕ → Bool
is_digit d = nat_le 48 d && nat_lt d 58

-- the value of digits behind others of this value
abbrev pub digits : ℕ → List ℕ → Option ℕ
digits n [] = Some n
digits n (d ∷ ds) = if is_digit d then digits (n * 10 + (d - 48)) ds else None

-- the value of one or more digits
abbrev pub numeral : List ℕ → Option ℕ
numeral [] = None
numeral (d ∷ ds) = digits 0 (d ∷ ds)

-- a number of 32 bits
abbrev pub is_int : ℤ → Bool
is_int (pos n) = nat_lt n (2 ^ 31)
is_int (negsuc n) = nat_lt n (2 ^ 31)

abbrev pub if_int : ℤ → Option ℤ
if_int value = if is_int value then Some value else None

-- that value, and its negative, where it is an int
abbrev pub positive : Option ℕ → Option ℤ
positive (Some n) = if_int (pos n)
positive None = None

abbrev pub negative : Option ℕ → Option ℤ
negative (Some n) = if_int (neg_ℤ (pos n))
negative None = None

abbrev pub PLUS : ℕ
PLUS = 43

abbrev pub MINUS : ℕ
MINUS = 45

-- an optional sign and digits
unfoldable pub parsed : List ℕ → Option ℤ
parsed [] = None
parsed (d ∷ ds) = if d == PLUS then positive (numeral ds) else (if d == MINUS then negative (numeral ds) else positive (numeral (d ∷ ds)))

abbrev pub parsed_word : List Object → Word → Option ℤ
parsed_word os (Ref n) = parsed (units_at os n)
parsed_word os _ = None

abbrev pub int_or_throw : Option ℤ → Out
int_or_throw (Some n) = gives (Int n)
int_or_throw None = Throw NumberFormatException

-- parseInt
unfoldable pub parse_int : Word → Machine → Out
parse_int word m = int_or_throw (parsed_word m.heap.objects word)

-- ---- of the code alone

-- a value above 2^31 left out, since no sign brings it into range
abbrev pub capped : Option ℕ → Option ℕ
capped (Some n) = if nat_le n (2 ^ 31) then Some n else None
capped None = None
