-- What the tokens of a written statement say is the statement.
use Rattle.std.proofs.Common.{◌≡◌, ℕ, true, false, List, [], ◌∷◌, ◌++◌, Option, Some, None, Ok, refl, ap, ◌∙◌}
use Rattle.std.specs.Prelude.{ℤ, option_map, codes}
use Rattle.std.specs.List.{list_all}
use Rattle.mvm_insn.specs.Opcodes.{operands_of}
use Rattle.mvm_insn.specs.declared.opcodes.TheConstants as jvm
use Rattle.mvm_statement.specs.Tokens.{is_writable, is_word}
use Rattle.mvm_statement.specs.Operands.{number, quoted, index, reference, member, loadable, long_constant, place}
use Rattle.mvm_statement.specs.Lines.{Operands, nothing, one, two, three, four, targets, rows}
use Rattle.mvm_statement.specs.Words.{shape_of, name_of, is_unknown}
use Rattle.mvm_statement.specs.Values.{kind_word, kind_named, kind_in, kind_of, value_in, spelled_value, is_good_value}
use Rattle.mvm_statement.specs.Instructions.{instruction_in, spelled_instruction, is_good_instruction, has_shape, has_row, table_in, widened}
use Rattle.mvm_statement.specs.Statements.{directed, tokens_say, spelled, is_good, led, super_class, caught, constant_in, spelled_constant, is_good_constant, entry_in}
use Rattle.mvm_statement.specs.declared.token.Token.{Token}
use Rattle.mvm_statement.specs.declared.token.Token.TheVariants.{Bare}
use Rattle.mvm_statement.specs.declared.operand.Initial.{Initial}
use Rattle.mvm_statement.specs.declared.operand.Place.{Place}
use Rattle.mvm_statement.specs.declared.pool_value.NumberKind.TheVariants.{Integer, Float, Long, Double}
use Rattle.mvm_statement.specs.declared.pool_value.IndexKind.TheVariants as indexed
use Rattle.mvm_statement.specs.declared.pool_value.PairKind.TheVariants.{Fieldref, Methodref, InterfaceMethodref, NameAndType}
use Rattle.mvm_statement.specs.declared.pool_value.MixedKind.TheVariants.{MethodHandle, InvokeDynamic}
use Rattle.mvm_statement.specs.declared.pool_value.EntryKind.{EntryKind}
use Rattle.mvm_statement.specs.declared.pool_value.EntryKind.TheVariants.{Text, Number, Index, Indices, NumberAndIndex}
use Rattle.mvm_statement.specs.declared.pool_value.PoolValue.{PoolValue}
use Rattle.mvm_statement.specs.declared.pool_value.PoolValue.TheVariants as values
use Rattle.mvm_statement.specs.declared.words.Directive.{Directive}
use Rattle.mvm_statement.specs.declared.words.Directive.TheVariants.{Version, Entry, Class, Implements, Field, Method, Code, Byte, Catch, End}
use Rattle.mvm_statement.specs.declared.words.Shape.{Shape}
use Rattle.mvm_statement.specs.declared.words.Shape.TheVariants as shapes
use Rattle.mvm_statement.specs.declared.instruction.Instruction.{Instruction}
use Rattle.mvm_statement.specs.declared.instruction.Instruction.TheVariants as insns
use Rattle.mvm_statement.specs.declared.statement.Statement.{Statement}
use Rattle.mvm_statement.specs.declared.statement.Statement.TheVariants as lines
use Rattle.mvm_statement.proofs.Tests.{both, and_again}
use Rattle.mvm_statement.proofs.OperandsBack.{Back, number_back, quoted_back, index_back, reference_back, member_back, loadable_back, long_back, initial_back, place_back, or_word_back}
use Rattle.mvm_statement.proofs.LinesBack.{Again, nothing_again, one_again, two_again, three_again, four_again, targets_again, rows_again, all_again}
use Rattle.mvm_statement.proofs.WordsBack.{directive_head, directive_word, known_name, shaped, shape_known, mnemonic_head, label_head, label_word}

-- ---- entries of the pool

kind_back : (kind : EntryKind) → kind_in (Bare (kind_word kind)) ≡ Some kind
unfolding kind_named
kind_back Text = refl
kind_back (Number Integer) = refl
kind_back (Number Float) = refl
kind_back (Number Long) = refl
kind_back (Number Double) = refl
kind_back (Index indexed.Class) = refl
kind_back (Index indexed.Str) = refl
kind_back (Index indexed.MethodType) = refl
kind_back (Indices Fieldref) = refl
kind_back (Indices Methodref) = refl
kind_back (Indices InterfaceMethodref) = refl
kind_back (Indices NameAndType) = refl
kind_back (NumberAndIndex MethodHandle) = refl
kind_back (NumberAndIndex InvokeDynamic) = refl

kind_written : (kind : EntryKind) → is_word (kind_word kind) ≡ true
kind_written Text = refl
kind_written (Number Integer) = refl
kind_written (Number Float) = refl
kind_written (Number Long) = refl
kind_written (Number Double) = refl
kind_written (Index indexed.Class) = refl
kind_written (Index indexed.Str) = refl
kind_written (Index indexed.MethodType) = refl
kind_written (Indices Fieldref) = refl
kind_written (Indices Methodref) = refl
kind_written (Indices InterfaceMethodref) = refl
kind_written (Indices NameAndType) = refl
kind_written (NumberAndIndex MethodHandle) = refl
kind_written (NumberAndIndex InvokeDynamic) = refl

text_again : Again (one quoted)
text_again = one_again quoted quoted_back

number_again : Again (one number)
number_again = one_again number number_back

index_again : Again (one index)
index_again = one_again index index_back

indices_again : Again (two index index)
indices_again = two_again index index index_back index_back

mixed_again : Again (two number index)
mixed_again = two_again number index number_back index_back

numbers_again : Again (two number number)
numbers_again = two_again number number number_back number_back

value_back : (v : PoolValue) → is_good_value v ≡ true → value_in (kind_of v) (spelled_value v) ≡ Some v
value_back (values.Text text) h = ap (option_map values.Text) (text_again.read text h)
value_back (values.Number kind n) h = ap (option_map (values.Number kind)) (number_again.read n h)
value_back (values.Index kind n) h = ap (option_map (values.Index kind)) (index_again.read n h)
value_back (values.Indices kind a b) h = ap (option_map (λ (x : ℤ × ℤ). values.Indices kind x.0 x.1)) (indices_again.read (a, b) h)
value_back (values.NumberAndIndex kind a b) h = ap (option_map (λ (x : ℤ × ℤ). values.NumberAndIndex kind x.0 x.1)) (mixed_again.read (a, b) h)

value_written : (v : PoolValue) → is_good_value v ≡ true → list_all is_writable (spelled_value v) ≡ true
value_written (values.Text text) h = text_again.written text h
value_written (values.Number kind n) h = number_again.written n h
value_written (values.Index kind n) h = index_again.written n h
value_written (values.Indices kind a b) h = indices_again.written (a, b) h
value_written (values.NumberAndIndex kind a b) h = mixed_again.written (a, b) h

-- ---- lines of a directive

directed_back : {A : Type 0} (F : Operands A) → Again F → (directive : Directive) (make : A → Statement) (x : A)
    → directed directive (F.spelled x) ≡ option_map make (F.read (F.spelled x)) → F.is_good x ≡ true → tokens_say (led directive (F.spelled x)) ≡ Ok (Some (make x))
unfolding tokens_say
directed_back F f directive make x is h = rw (directive_head directive, is, f.read x h) refl

led_says : (directive : Directive) (ts : List Token) (s : Statement) → directed directive ts ≡ Some s → tokens_say (led directive ts) ≡ Ok (Some s)
unfolding tokens_say
led_says directive ts s h = rw (directive_head directive, h) refl

led_written : (directive : Directive) (ts : List Token) → list_all is_writable ts ≡ true → list_all is_writable (led directive ts) ≡ true
led_written directive ts h = and_again _ _ (directive_word directive) h

super_back : Back super_class
super_back = or_word_back (codes "none") reference refl reference_back

caught_back : Back caught
caught_back = or_word_back (codes "any") reference refl reference_back

class_again : Again (three number reference super_class)
class_again = three_again number reference super_class number_back reference_back super_back

member_again : Again (three number reference reference)
member_again = three_again number reference reference number_back reference_back reference_back

catch_again : Again (four place place place caught)
catch_again = four_again place place place caught place_back place_back place_back caught_back

reference_again : Again (one reference)
reference_again = one_again reference reference_back

entry_back : (n : ℤ) (v : PoolValue) → number.is_good n ≡ true → is_good_value v ≡ true → entry_in (number.spelled n ∷ Bare (kind_word (kind_of v)) ∷ spelled_value v) ≡ Some (lines.Entry n v)
entry_back n v h g = rw (number_back.read n h, kind_back (kind_of v), value_back v g) refl

constant_back : (c : Option Initial) → is_good_constant c ≡ true → constant_in (spelled_constant c) ≡ Some c
constant_back None h = refl
constant_back (Some x) h = rw (initial_back.read x h) refl

constant_written : (c : Option Initial) → is_good_constant c ≡ true → list_all is_writable (spelled_constant c) ≡ true
constant_written None h = refl
constant_written (Some x) h = rw (initial_back.written x h) refl

-- ---- instructions

instruction_says : (op : ℕ) (shape : Shape) (ts : List Token) (i : Instruction) → has_shape op shape ≡ true → instruction_in op shape ts ≡ Some i → tokens_say (Bare (name_of op) ∷ ts) ≡ Ok (Some (lines.Instruction i))
unfolding tokens_say
instruction_says op shape ts i known h = rw (mnemonic_head op (shape_known op shape known), shaped op shape known, h) refl

op_written : (op : ℕ) (shape : Shape) (ts : List Token) → has_shape op shape ≡ true → list_all is_writable ts ≡ true → list_all is_writable (Bare (name_of op) ∷ ts) ≡ true
op_written op shape ts known h = and_again _ _ ((known_name op (shape_known op shape known)).written) h

again_says : {A : Type 0} (F : Operands A) → Again F → (op : ℕ) (shape : Shape) (make : A → Instruction) (x : A) → has_shape op shape ≡ true
    → instruction_in op shape (F.spelled x) ≡ option_map make (F.read (F.spelled x)) → F.is_good x ≡ true → tokens_say (Bare (name_of op) ∷ F.spelled x) ≡ Ok (Some (lines.Instruction (make x)))
again_says F f op shape make x known is h = instruction_says op shape (F.spelled x) (make x) known (is ∙ ap (option_map make) (f.read x h))

wide_known : is_unknown (shape_of jvm.WIDE) ≡ false
unfolding shape_of operands_of
wide_known = refl

wide_shape : shape_of jvm.WIDE ≡ shapes.Wide
unfolding shape_of operands_of
wide_shape = refl

wide_says : (op : ℕ) (shape : Shape) (ts : List Token) (i : Instruction) → has_shape op shape ≡ true → widened op shape ts ≡ Some i → tokens_say (Bare (name_of jvm.WIDE) ∷ Bare (name_of op) ∷ ts) ≡ Ok (Some (lines.Instruction i))
unfolding tokens_say
wide_says op shape ts i known h = rw (mnemonic_head jvm.WIDE wide_known, wide_shape, (known_name op (shape_known op shape known)).found, shaped op shape known, h) refl

wide_written : (op : ℕ) (shape : Shape) (ts : List Token) → has_shape op shape ≡ true → list_all is_writable ts ≡ true → list_all is_writable (Bare (name_of jvm.WIDE) ∷ Bare (name_of op) ∷ ts) ≡ true
wide_written op shape ts known h = and_again _ _ ((known_name jvm.WIDE wide_known).written) (op_written op shape ts known h)

load_again : Again (one loadable)
load_again = one_again loadable loadable_back

long_again : Again (one long_constant)
long_again = one_again long_constant long_back

member_operand : Again (one member)
member_operand = one_again member member_back

place_again : Again (one place)
place_again = one_again place place_back

invocation_again : Again (two member number)
invocation_again = two_again member number member_back number_back

dimensions_again : Again (two reference number)
dimensions_again = two_again reference number reference_back number_back

table_back : (op : ℕ) (low : ℤ) (ts : List Place) (otherwise : Place) → has_row ts ≡ true → number.is_good low ≡ true → targets.is_good (ts, otherwise) ≡ true
    → table_in op (number.spelled low ∷ targets.spelled (ts, otherwise)) ≡ Some (insns.Table op low ts otherwise)
table_back op low [] otherwise r g h = absurd cc
table_back op low (t ∷ ts) otherwise r g h = rw (number_back.read low g, targets_again.read (t ∷ ts, otherwise) h) refl

instruction_back : (i : Instruction) → is_good_instruction i ≡ true → tokens_say (spelled_instruction i) ≡ Ok (Some (lines.Instruction i))
instruction_back (insns.Plain op) h = again_says nothing nothing_again op shapes.Plain (λ x. insns.Plain op) tt h refl refl
instruction_back (insns.Push op n) h = let a = both (has_shape op shapes.Push) _ h in again_says (one number) number_again op shapes.Push (insns.Push op) n a.0 refl a.1
instruction_back (insns.Load op x) h = let a = both (has_shape op shapes.Load) _ h in again_says (one loadable) load_again op shapes.Load (insns.Load op) x a.0 refl a.1
instruction_back (insns.LoadLong op x) h = let a = both (has_shape op shapes.LoadLong) _ h in again_says (one long_constant) long_again op shapes.LoadLong (insns.LoadLong op) x a.0 refl a.1
instruction_back (insns.OfClass op x) h = let a = both (has_shape op shapes.OfClass) _ h in again_says (one reference) reference_again op shapes.OfClass (insns.OfClass op) x a.0 refl a.1
instruction_back (insns.OfMember op x) h = let a = both (has_shape op shapes.OfMember) _ h in again_says (one member) member_operand op shapes.OfMember (insns.OfMember op) x a.0 refl a.1
instruction_back (insns.Local op n false) h = let a = both (has_shape op shapes.Local) _ h in again_says (one number) number_again op shapes.Local (λ n. insns.Local op n false) n a.0 refl a.1
instruction_back (insns.Local op n true) h = let a = both (has_shape op shapes.Local) _ h in wide_says op shapes.Local ((one number).spelled n) (insns.Local op n true) a.0 (ap (option_map (λ (n : ℤ). insns.Local op n true)) (number_again.read n a.1))
instruction_back (insns.Increment op n by false) h = let a = both (has_shape op shapes.Increment) _ h in again_says (two number number) numbers_again op shapes.Increment (λ x. insns.Increment op x.0 x.1 false) (n, by) a.0 refl a.1
instruction_back (insns.Increment op n by true) h = let a = both (has_shape op shapes.Increment) _ h in wide_says op shapes.Increment ((two number number).spelled (n, by)) (insns.Increment op n by true) a.0 (ap (option_map (λ (x : ℤ × ℤ). insns.Increment op x.0 x.1 true)) (numbers_again.read (n, by) a.1))
instruction_back (insns.Jump op x) h = let a = both (has_shape op shapes.Jump) _ h in again_says (one place) place_again op shapes.Jump (insns.Jump op) x a.0 refl a.1
instruction_back (insns.Table op low ts otherwise) h =
    let a = both (has_shape op shapes.Table) _ h in
    let b = both (has_row ts) _ a.1 in
    let c = both (number.is_good low) _ b.1 in
    instruction_says op shapes.Table (number.spelled low ∷ targets.spelled (ts, otherwise)) (insns.Table op low ts otherwise) a.0 (table_back op low ts otherwise b.0 c.0 c.1)
instruction_back (insns.Lookup op rs otherwise) h = let a = both (has_shape op shapes.Lookup) _ h in again_says rows rows_again op shapes.Lookup (λ x. insns.Lookup op x.0 x.1) (rs, otherwise) a.0 refl a.1
instruction_back (insns.Invocation op x count) h = let a = both (has_shape op shapes.Invocation) _ h in again_says (two member number) invocation_again op shapes.Invocation (λ x. insns.Invocation op x.0 x.1) (x, count) a.0 refl a.1
instruction_back (insns.Items op n) h = let a = both (has_shape op shapes.Items) _ h in again_says (one number) number_again op shapes.Items (insns.Items op) n a.0 refl a.1
instruction_back (insns.Dimensions op x count) h = let a = both (has_shape op shapes.Dimensions) _ h in again_says (two reference number) dimensions_again op shapes.Dimensions (λ x. insns.Dimensions op x.0 x.1) (x, count) a.0 refl a.1

instruction_written : (i : Instruction) → is_good_instruction i ≡ true → list_all is_writable (spelled_instruction i) ≡ true
instruction_written (insns.Plain op) h = op_written op shapes.Plain [] h refl
instruction_written (insns.Push op n) h = let a = both (has_shape op shapes.Push) _ h in op_written op shapes.Push ((one number).spelled n) a.0 (number_again.written n a.1)
instruction_written (insns.Load op x) h = let a = both (has_shape op shapes.Load) _ h in op_written op shapes.Load ((one loadable).spelled x) a.0 (load_again.written x a.1)
instruction_written (insns.LoadLong op x) h = let a = both (has_shape op shapes.LoadLong) _ h in op_written op shapes.LoadLong ((one long_constant).spelled x) a.0 (long_again.written x a.1)
instruction_written (insns.OfClass op x) h = let a = both (has_shape op shapes.OfClass) _ h in op_written op shapes.OfClass ((one reference).spelled x) a.0 (reference_again.written x a.1)
instruction_written (insns.OfMember op x) h = let a = both (has_shape op shapes.OfMember) _ h in op_written op shapes.OfMember ((one member).spelled x) a.0 (member_operand.written x a.1)
instruction_written (insns.Local op n false) h = let a = both (has_shape op shapes.Local) _ h in op_written op shapes.Local ((one number).spelled n) a.0 (number_again.written n a.1)
instruction_written (insns.Local op n true) h = let a = both (has_shape op shapes.Local) _ h in wide_written op shapes.Local ((one number).spelled n) a.0 (number_again.written n a.1)
instruction_written (insns.Increment op n by false) h = let a = both (has_shape op shapes.Increment) _ h in op_written op shapes.Increment ((two number number).spelled (n, by)) a.0 (numbers_again.written (n, by) a.1)
instruction_written (insns.Increment op n by true) h = let a = both (has_shape op shapes.Increment) _ h in wide_written op shapes.Increment ((two number number).spelled (n, by)) a.0 (numbers_again.written (n, by) a.1)
instruction_written (insns.Jump op x) h = let a = both (has_shape op shapes.Jump) _ h in op_written op shapes.Jump ((one place).spelled x) a.0 (place_again.written x a.1)
instruction_written (insns.Table op low ts otherwise) h =
    let a = both (has_shape op shapes.Table) _ h in
    let b = both (has_row ts) _ a.1 in
    let c = both (number.is_good low) _ b.1 in
    op_written op shapes.Table (number.spelled low ∷ targets.spelled (ts, otherwise)) a.0 (and_again _ _ (number_back.written low c.0) (targets_again.written (ts, otherwise) c.1))
instruction_written (insns.Lookup op rs otherwise) h = let a = both (has_shape op shapes.Lookup) _ h in op_written op shapes.Lookup (rows.spelled (rs, otherwise)) a.0 (rows_again.written (rs, otherwise) a.1)
instruction_written (insns.Invocation op x count) h = let a = both (has_shape op shapes.Invocation) _ h in op_written op shapes.Invocation ((two member number).spelled (x, count)) a.0 (invocation_again.written (x, count) a.1)
instruction_written (insns.Items op n) h = let a = both (has_shape op shapes.Items) _ h in op_written op shapes.Items ((one number).spelled n) a.0 (number_again.written n a.1)
instruction_written (insns.Dimensions op x count) h = let a = both (has_shape op shapes.Dimensions) _ h in op_written op shapes.Dimensions ((two reference number).spelled (x, count)) a.0 (dimensions_again.written (x, count) a.1)

-- ---- statements

label_says : (name : List ℕ) → is_word name ≡ true → tokens_say (Bare (name ++ 58 ∷ []) ∷ []) ≡ Ok (Some (lines.Label name))
unfolding tokens_say
label_says name h = rw (label_head name h) refl

pub statement_back : (s : Statement) → is_good s ≡ true → tokens_say (spelled s) ≡ Ok (Some s)
unfolding spelled is_good
statement_back (lines.Version a b) h = directed_back (two number number) numbers_again Version (λ x. lines.Version x.0 x.1) (a, b) refl h
statement_back (lines.Entry n v) h = let a = both (number.is_good n) _ h in led_says Entry (number.spelled n ∷ Bare (kind_word (kind_of v)) ∷ spelled_value v) (lines.Entry n v) (entry_back n v a.0 a.1)
statement_back (lines.Class flags this super) h = directed_back (three number reference super_class) class_again Class (λ x. lines.Class x.0 x.1.0 x.1.1) (flags, (this, super)) refl h
statement_back (lines.Implements x) h = directed_back (one reference) reference_again Implements lines.Implements x refl h
statement_back (lines.Field flags name desc constant) h =
    let a = both ((three number reference reference).is_good (flags, (name, desc))) _ h in
    led_says Field ((three number reference reference).spelled (flags, (name, desc)) ++ spelled_constant constant) (lines.Field flags name desc constant) (rw (member_again.read (flags, (name, desc)) a.0, constant_back constant a.1) refl)
statement_back (lines.Method flags name desc) h = directed_back (three number reference reference) member_again Method (λ x. lines.Method x.0 x.1.0 x.1.1) (flags, (name, desc)) refl h
statement_back (lines.Code a b) h = directed_back (two number number) numbers_again Code (λ x. lines.Code x.0 x.1) (a, b) refl h
statement_back (lines.Label name) h = label_says name h
statement_back (lines.Instruction line) h = instruction_back line h
statement_back (lines.Byte n) h = directed_back (one number) number_again Byte lines.Byte n refl h
statement_back (lines.Catch start end handler class) h = directed_back (four place place place caught) catch_again Catch (λ x. lines.Catch x.0 x.1.0 x.1.1.0 x.1.1.1) (start, (end, (handler, class))) refl h
statement_back lines.End h = directed_back nothing nothing_again End (λ x. lines.End) tt refl refl

pub statement_written : (s : Statement) → is_good s ≡ true → list_all is_writable (spelled s) ≡ true
unfolding spelled is_good
statement_written (lines.Version a b) h = led_written Version ((two number number).spelled (a, b)) (numbers_again.written (a, b) h)
statement_written (lines.Entry n v) h = let a = both (number.is_good n) _ h in led_written Entry (number.spelled n ∷ Bare (kind_word (kind_of v)) ∷ spelled_value v) (and_again _ _ (number_back.written n a.0) (and_again _ _ (kind_written (kind_of v)) (value_written v a.1)))
statement_written (lines.Class flags this super) h = led_written Class ((three number reference super_class).spelled (flags, (this, super))) (class_again.written (flags, (this, super)) h)
statement_written (lines.Implements x) h = led_written Implements ((one reference).spelled x) (reference_again.written x h)
statement_written (lines.Field flags name desc constant) h =
    let a = both ((three number reference reference).is_good (flags, (name, desc))) _ h in
    led_written Field ((three number reference reference).spelled (flags, (name, desc)) ++ spelled_constant constant) (all_again ((three number reference reference).spelled (flags, (name, desc))) (spelled_constant constant) (member_again.written (flags, (name, desc)) a.0) (constant_written constant a.1))
statement_written (lines.Method flags name desc) h = led_written Method ((three number reference reference).spelled (flags, (name, desc))) (member_again.written (flags, (name, desc)) h)
statement_written (lines.Code a b) h = led_written Code ((two number number).spelled (a, b)) (numbers_again.written (a, b) h)
statement_written (lines.Label name) h = and_again _ _ (label_word name h) refl
statement_written (lines.Instruction line) h = instruction_written line h
statement_written (lines.Byte n) h = led_written Byte ((one number).spelled n) (number_again.written n h)
statement_written (lines.Catch start end handler class) h = led_written Catch ((four place place place caught).spelled (start, (end, (handler, class)))) (catch_again.written (start, (end, (handler, class))) h)
statement_written lines.End h = led_written End [] refl
