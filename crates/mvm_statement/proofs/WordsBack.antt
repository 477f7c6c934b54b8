-- First words: each directive, each mnemonic and each label is found as itself.
use Rattle.std.proofs.Common.{◌≡◌, ℕ, zero, suc, ◌+◌, ◌-◌, ◌<◌, Bool, true, false, List, [], ◌∷◌, ◌++◌, length, take, Option, Some, None, refl, ap, subst, ◌∙◌, arith, length-append}
use Rattle.std.specs.Prelude.{◌&&◌, ◌==◌, not, unwrap_or, option_map, slice_get, slice_index, map}
use Rattle.std.specs.List.{list_all}
use Rattle.std.proofs.lemmas.Bool.{eqb-true, lt-ltb}
use Rattle.mvm_insn.specs.Opcodes.{operands_of, mnemonic_of, all_mnemonics}
use Rattle.mvm_insn.specs.declared.table.TheConstants.{TABLE}
use Rattle.mvm_statement.specs.Tokens.{is_word}
use Rattle.mvm_statement.specs.Words.{word_of, directive_of, head_of, label_of, opcode_of, name_of, shape_of, is_unknown}
use Rattle.mvm_statement.specs.declared.words.Directive.{Directive}
use Rattle.mvm_statement.specs.declared.words.Directive.TheVariants.{Version, Entry, Class, Implements, Field, Method, Code, Byte, Catch, End}
use Rattle.mvm_statement.specs.declared.words.Head.TheVariants as heads
use Rattle.std.proofs.lemmas.Option.{slice_get-map}
use Rattle.mvm_statement.specs.Instructions.{same_shape, has_shape}
use Rattle.mvm_statement.specs.declared.words.Shape.{Shape}
use Rattle.mvm_statement.specs.declared.words.Shape.TheVariants as shapes
use Rattle.mvm_statement.specs.Tokens.{is_letter}
use Rattle.mvm_statement.proofs.Tests.{both, and_again}
use Rattle.mvm_statement.proofs.OperandsBack.{take_front}

-- ---- directives

pub directive_head : (directive : Directive) → head_of (word_of directive) ≡ Some (heads.Directive directive)
unfolding head_of directive_of
directive_head Version = refl
directive_head Entry = refl
directive_head Class = refl
directive_head Implements = refl
directive_head Field = refl
directive_head Method = refl
directive_head Code = refl
directive_head Byte = refl
directive_head Catch = refl
directive_head End = refl

pub directive_word : (directive : Directive) → is_word (word_of directive) ≡ true
directive_word Version = refl
directive_word Entry = refl
directive_word Class = refl
directive_word Implements = refl
directive_word Field = refl
directive_word Method = refl
directive_word Code = refl
directive_word Byte = refl
directive_word Catch = refl
directive_word End = refl

-- ---- mnemonics

abbrev is_at : Option ℕ → ℕ → Bool
is_at (Some m) n = m == n
is_at None n = false

abbrev is_none : {A : Type 0} → Option A → Bool
is_none None = true
is_none (Some x) = false

-- a word that is found at this opcode, is no label and no directive, and can be written
abbrev is_sound : ℕ → List ℕ → Bool
is_sound op word = is_at (opcode_of word) op && (is_none (label_of word) && (is_none (directive_of word) && is_word word))

abbrev all_sound_from : ℕ → List (List ℕ) → Bool
all_sound_from op [] = true
all_sound_from op (word ∷ words) = is_sound op word && all_sound_from (op + 1) words

all_sound : all_sound_from 0 all_mnemonics ≡ true
unfolding opcode_of directive_of
all_sound = refl

sound_at : (op : ℕ) (words : List (List ℕ)) (n : ℕ) (word : List ℕ) → all_sound_from op words ≡ true → slice_get words n ≡ Some word → is_sound (op + n) word ≡ true
sound_at op [] n word h e = absurd cc
sound_at op (w ∷ ws) zero word h e =
    let here : w ≡ word = cc in
    let k : op + 0 ≡ op = omega arith in
    rw k (subst (λ (x : List ℕ). is_sound op x ≡ true) here (both (is_sound op w) _ h).0)
sound_at op (w ∷ ws) (suc n) word h e =
    let k : op + suc n ≡ (op + 1) + n = omega arith in
    rw k (sound_at (op + 1) ws n word (both (is_sound op w) _ h).1 e)

at_is : (o : Option ℕ) (n : ℕ) → is_at o n ≡ true → o ≡ Some n
at_is (Some m) n h = ap (λ (k : ℕ). Some k) (eqb-true m n h)
at_is None n h = absurd cc

none_is : {A : Type 0} (o : Option A) → is_none o ≡ true → o ≡ None
none_is None h = refl
none_is (Some x) h = absurd cc

pub record IsName (op : ℕ) : Type 0 where
  pub found : opcode_of (name_of op) ≡ Some op
  pub is_no_label : label_of (name_of op) ≡ None
  pub is_no_directive : directive_of (name_of op) ≡ None
  pub written : is_word (name_of op) ≡ true

pub name_is : (op : ℕ) (word : List ℕ) → mnemonic_of op ≡ Some word → IsName op
unfolding mnemonic_of
name_is op word e =
    let n : name_of op ≡ word = ap (λ (o : Option (List ℕ)). unwrap_or o []) e in
    let z : 0 + op ≡ op = omega arith in
    let s : is_sound op word ≡ true = subst (λ (k : ℕ). is_sound k word ≡ true) z (sound_at 0 all_mnemonics op word all_sound e) in
    let a = both (is_at (opcode_of word) op) _ s in
    let b = both (is_none (label_of word)) _ a.1 in
    let c = both (is_none (directive_of word)) _ b.1 in
    record {
      found = ap opcode_of n ∙ at_is (opcode_of word) op a.0;
      is_no_label = ap label_of n ∙ none_is (label_of word) b.0;
      is_no_directive = ap directive_of n ∙ none_is (directive_of word) c.0;
      written = ap is_word n ∙ c.1;
    }

-- an opcode of a shape has a row, and so a mnemonic
unknown_absent : (op : ℕ) → slice_get TABLE op ≡ None → shape_of op ≡ shapes.Unknown
unfolding shape_of operands_of
unknown_absent op h =
    let e : slice_get (map (λ row. row.1) TABLE) op ≡ None = slice_get-map (λ row. row.1) TABLE op ∙ ap (option_map (λ row. row.1)) h in
    rw e refl

pub known_name : (op : ℕ) → is_unknown (shape_of op) ≡ false → IsName op
unfolding mnemonic_of
known_name op h = by (slice_get TABLE op) refl
  where
    by : (o : _) → slice_get TABLE op ≡ o → IsName op
    by None e = absurd (cc (unknown_absent op e))
    by (Some row) e = name_is op (row.0.now) (slice_get-map (λ row. row.0.now) TABLE op ∙ ap (option_map (λ row. row.0.now)) e)

shape_is : (s t : Shape) → same_shape s t ≡ true → s ≡ t
shape_is shapes.Plain shapes.Plain h = refl
shape_is shapes.Push shapes.Push h = refl
shape_is shapes.Load shapes.Load h = refl
shape_is shapes.LoadLong shapes.LoadLong h = refl
shape_is shapes.OfClass shapes.OfClass h = refl
shape_is shapes.OfMember shapes.OfMember h = refl
shape_is shapes.Local shapes.Local h = refl
shape_is shapes.Increment shapes.Increment h = refl
shape_is shapes.Jump shapes.Jump h = refl
shape_is shapes.Table shapes.Table h = refl
shape_is shapes.Lookup shapes.Lookup h = refl
shape_is shapes.Invocation shapes.Invocation h = refl
shape_is shapes.Items shapes.Items h = refl
shape_is shapes.Dimensions shapes.Dimensions h = refl
shape_is _ _ h = absurd cc

pub shaped : (op : ℕ) (shape : Shape) → has_shape op shape ≡ true → shape_of op ≡ shape
unfolding has_shape
shaped op shape h = shape_is (shape_of op) shape h

same_known : (s t : Shape) → same_shape s t ≡ true → is_unknown s ≡ false
same_known shapes.Unknown t h = absurd cc
same_known shapes.Wide t h = refl
same_known shapes.Plain t h = refl
same_known shapes.Push t h = refl
same_known shapes.Load t h = refl
same_known shapes.LoadLong t h = refl
same_known shapes.OfClass t h = refl
same_known shapes.OfMember t h = refl
same_known shapes.Local t h = refl
same_known shapes.Increment t h = refl
same_known shapes.Jump t h = refl
same_known shapes.Table t h = refl
same_known shapes.Lookup t h = refl
same_known shapes.Invocation t h = refl
same_known shapes.Items t h = refl
same_known shapes.Dimensions t h = refl

pub shape_known : (op : ℕ) (shape : Shape) → has_shape op shape ≡ true → is_unknown (shape_of op) ≡ false
unfolding has_shape
shape_known op shape h = same_known (shape_of op) shape h

pub mnemonic_head : (op : ℕ) → is_unknown (shape_of op) ≡ false → head_of (name_of op) ≡ Some (heads.Instruction op)
unfolding head_of
mnemonic_head op h = let n = known_name op h in rw (n.is_no_label, n.is_no_directive, n.found, h) refl

-- ---- labels

last_is : (xs : List ℕ) (y : ℕ) → slice_index (xs ++ y ∷ []) (length xs) ≡ y
last_is [] y = refl
last_is (x ∷ xs) y = last_is xs y

label_back : (name : List ℕ) → is_word name ≡ true → label_of (name ++ 58 ∷ []) ≡ Some name
label_back [] h = absurd cc
label_back (c ∷ cs) h =
    let l : length ((c ∷ cs) ++ 58 ∷ []) ≡ length (c ∷ cs) + 1 = length-append (c ∷ cs) (58 ∷ []) in
    let n : length ((c ∷ cs) ++ 58 ∷ []) - 1 ≡ length (c ∷ cs) = omega (arith, l) in
    let long : 1 < length ((c ∷ cs) ++ 58 ∷ []) = omega (arith, l) in
    let last : slice_index ((c ∷ cs) ++ 58 ∷ []) (length ((c ∷ cs) ++ 58 ∷ []) - 1) ≡ 58 = rw n (last_is (c ∷ cs) 58) in
    let front : take (length ((c ∷ cs) ++ 58 ∷ []) - 1) ((c ∷ cs) ++ 58 ∷ []) ≡ c ∷ cs = rw n (take_front (c ∷ cs) (58 ∷ [])) in
    rw (lt-ltb 1 _ long, last, front) refl

pub label_head : (name : List ℕ) → is_word name ≡ true → head_of (name ++ 58 ∷ []) ≡ Some (heads.Label name)
unfolding head_of
label_head name h = rw (label_back name h) refl

letters_colon : (cs : List ℕ) → list_all is_letter cs ≡ true → list_all is_letter (cs ++ 58 ∷ []) ≡ true
letters_colon [] h = refl
letters_colon (c ∷ cs) h = let a = both (is_letter c) _ h in and_again _ _ a.0 (letters_colon cs a.1)

pub label_word : (name : List ℕ) → is_word name ≡ true → is_word (name ++ 58 ∷ []) ≡ true
label_word [] h = absurd cc
label_word (c ∷ cs) h =
    let a = both (not (c == 34)) _ h in
    let b = both (not (c == 59)) _ a.1 in
    and_again _ _ a.0 (and_again _ _ b.0 (letters_colon (c ∷ cs) b.1))
