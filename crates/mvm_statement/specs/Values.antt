-- What a `pool` line gives an entry: a kind, and the values that an entry of this kind has (JVM Specification 4.4).
use Rattle.std.specs.Prelude.{ℕ, List, [], ◌∷◌, Bool, Option, None, codes, bytes_eq, option_map, find}
use Rattle.mvm_statement.specs.Operands.{number, quoted, index}
use Rattle.mvm_statement.specs.Lines.{one, two}
use Rattle.mvm_statement.specs.declared.token.Token.{Token}
use Rattle.mvm_statement.specs.declared.token.Token.TheVariants.{Bare}
use Rattle.mvm_statement.specs.declared.pool_value.NumberKind.TheVariants.{Integer, Float, Long, Double}
use Rattle.mvm_statement.specs.declared.pool_value.IndexKind.TheVariants.{Class, Str, MethodType}
use Rattle.mvm_statement.specs.declared.pool_value.PairKind.TheVariants.{Fieldref, Methodref, InterfaceMethodref, NameAndType}
use Rattle.mvm_statement.specs.declared.pool_value.MixedKind.TheVariants.{MethodHandle, InvokeDynamic}
use Rattle.mvm_statement.specs.declared.pool_value.EntryKind.{EntryKind}
use Rattle.mvm_statement.specs.declared.pool_value.EntryKind.TheVariants.{Text, Number, Index, Indices, NumberAndIndex}
use Rattle.mvm_statement.specs.declared.pool_value.PoolValue.{PoolValue}
use Rattle.mvm_statement.specs.declared.pool_value.PoolValue.TheVariants as values

abbrev pub kind_word : EntryKind → List ℕ
kind_word Text = codes "utf8"
kind_word (Number Integer) = codes "int"
kind_word (Number Float) = codes "float"
kind_word (Number Long) = codes "long"
kind_word (Number Double) = codes "double"
kind_word (Index Class) = codes "class"
kind_word (Index Str) = codes "string"
kind_word (Index MethodType) = codes "mtype"
kind_word (Indices Fieldref) = codes "field"
kind_word (Indices Methodref) = codes "method"
kind_word (Indices InterfaceMethodref) = codes "imethod"
kind_word (Indices NameAndType) = codes "nat"
kind_word (NumberAndIndex MethodHandle) = codes "handle"
kind_word (NumberAndIndex InvokeDynamic) = codes "indy"

abbrev pub kinds : List EntryKind
kinds =
    Text ∷ Number Integer ∷ Number Float ∷ Number Long ∷ Number Double ∷ Index Class ∷ Index Str ∷ Index MethodType ∷
    Indices Fieldref ∷ Indices Methodref ∷ Indices InterfaceMethodref ∷ Indices NameAndType ∷
    NumberAndIndex MethodHandle ∷ NumberAndIndex InvokeDynamic ∷ []

-- the kind of a word
unfoldable pub kind_named : List ℕ → Option EntryKind
kind_named word = find (λ kind. bytes_eq word (kind_word kind)) kinds

abbrev pub kind_in : Token → Option EntryKind
kind_in (Bare word) = kind_named word
kind_in _ = None

abbrev pub kind_of : PoolValue → EntryKind
kind_of (values.Text text) = Text
kind_of (values.Number kind n) = Number kind
kind_of (values.Index kind n) = Index kind
kind_of (values.Indices kind first second) = Indices kind
kind_of (values.NumberAndIndex kind n at) = NumberAndIndex kind

-- the value of these tokens, behind the word of a kind
abbrev pub value_in : EntryKind → List Token → Option PoolValue
value_in Text ts = option_map values.Text ((one quoted).read ts)
value_in (Number kind) ts = option_map (values.Number kind) ((one number).read ts)
value_in (Index kind) ts = option_map (values.Index kind) ((one index).read ts)
value_in (Indices kind) ts = option_map (λ x. values.Indices kind x.0 x.1) ((two index index).read ts)
value_in (NumberAndIndex kind) ts = option_map (λ x. values.NumberAndIndex kind x.0 x.1) ((two number index).read ts)

abbrev pub spelled_value : PoolValue → List Token
spelled_value (values.Text text) = (one quoted).spelled text
spelled_value (values.Number kind n) = (one number).spelled n
spelled_value (values.Index kind n) = (one index).spelled n
spelled_value (values.Indices kind first second) = (two index index).spelled (first, second)
spelled_value (values.NumberAndIndex kind n at) = (two number index).spelled (n, at)

-- values that can be written
abbrev pub is_good_value : PoolValue → Bool
is_good_value (values.Text text) = (one quoted).is_good text
is_good_value (values.Number kind n) = (one number).is_good n
is_good_value (values.Index kind n) = (one index).is_good n
is_good_value (values.Indices kind first second) = (two index index).is_good (first, second)
is_good_value (values.NumberAndIndex kind n at) = (two number index).is_good (n, at)
