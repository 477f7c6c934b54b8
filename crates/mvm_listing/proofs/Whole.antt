-- The text of a class file is assembled to its parts.
use Rattle.std.proofs.Common.{◌≡◌, ℕ, zero, suc, ◌+◌, ◌≤◌, Bool, true, false, List, [], ◌∷◌, ◌++◌, length, map, Option, Some, None, Ok, refl, sym, ap, ◌∙◌, append_assoc}
use Rattle.std.specs.Prelude.{All, pos, flat_map, codes, is_some, IfSome, slice_get, cond}
use Rattle.std.proofs.lemmas.List.Elements.{All-head, All-tail}
use Rattle.mvm_layout.specs.Pool.{text, text_of, is_text}
use Rattle.mvm_layout.specs.declared.parts.Code.{Code}
use Rattle.mvm_layout.specs.declared.parts.Item.{Item}
use Rattle.mvm_layout.specs.declared.parts.Item.TheVariants.{Utf8, Integer, Float, Long, Double, Upper, Class, Str, Fieldref, Methodref, InterfaceMethodref, NameAndType, MethodHandle, MethodType, InvokeDynamic}
use Rattle.mvm_layout.specs.declared.parts.Member.{Member}
use Rattle.mvm_layout.specs.declared.parts.Parts.{Parts}
use Rattle.mvm_classfile.specs.Kept.{IsU2, CodeFits, HasText, MemberFits, NumbersFit, IsClassField, IsClassMethod}
use Rattle.mvm_classfile.proofs.Fitting.{numbers_fit}
use Rattle.mvm_classfile.proofs.Kept.{fields_kept, methods_kept}
use Rattle.mvm_classfile.proofs.Made.{rebuilt_is}
use Rattle.mvm_statement.specs.declared.statement.Statement.{Statement}
use Rattle.mvm_statement.specs.declared.statement.Statement.TheVariants as lines
use Rattle.mvm_listing.specs.declared.phase.Phase.{Phase}
use Rattle.mvm_listing.specs.declared.phase.Phase.TheVariants as phases
use Rattle.mvm_listing.specs.Order.{next, is_whole}
use Rattle.mvm_listing.specs.Constants.{index_where, is_utf8_of}
use Rattle.mvm_listing.specs.Blocks.{empty_block, unfit}
use Rattle.mvm_listing.specs.Assembly.{State, start, with_code, turn, act, first_fault, judged, assembled, class_of}
use Rattle.mvm_listing.specs.Disassembly.{Decoder, numbered, class_shown, entries, code_lines_of, apart, interface_line, field_line, method_lines, statements, standard, disassembly}
use Rattle.mvm_listing.specs.Laws.{PartsAgain, ClassAgain}
use Rattle.mvm_listing.proofs.Runs.{through, through_all, some_through, all_joined, run_back}
use Rattle.mvm_listing.proofs.Tests.{append_none}
use Rattle.mvm_listing.proofs.Numbers.{u2_fits}
use Rattle.mvm_listing.proofs.Entries.{in_pool, pool_back}
use Rattle.mvm_listing.proofs.Through.{going}
use Rattle.mvm_listing.proofs.Codes.{code_back}
use Rattle.mvm_listing.proofs.Texts.{lines_back, all_said}
use Rattle.mvm_listing.proofs.Good.{MethodFits, statements_good}

-- ---- the names of attributes

item_test : (wanted : List ℕ) (item : Item) → is_text wanted (text_of (Some item)) ≡ true → is_utf8_of wanted item ≡ true
item_test wanted (Utf8 text) h = h
item_test wanted (Integer n) h = absurd cc
item_test wanted (Float n) h = absurd cc
item_test wanted (Long n) h = absurd cc
item_test wanted (Double n) h = absurd cc
item_test wanted Upper h = absurd cc
item_test wanted (Class n) h = absurd cc
item_test wanted (Str n) h = absurd cc
item_test wanted (Fieldref n m) h = absurd cc
item_test wanted (Methodref n m) h = absurd cc
item_test wanted (InterfaceMethodref n m) h = absurd cc
item_test wanted (NameAndType n m) h = absurd cc
item_test wanted (MethodHandle n m) h = absurd cc
item_test wanted (MethodType n) h = absurd cc
item_test wanted (InvokeDynamic n m) h = absurd cc

found_from : (wanted : List ℕ) (n : ℕ) (items : List Item) (i : ℕ) → is_text wanted (text_of (slice_get items i)) ≡ true → is_some (index_where (is_utf8_of wanted) n items) ≡ true
found_from wanted n [] i h = absurd cc
found_from wanted n (item ∷ items) zero h = rw (item_test wanted item h) refl
found_from wanted n (item ∷ items) (suc i) h = by (is_utf8_of wanted item) (found_from wanted (n + 1) items i h)
  where
    by : (b : Bool) → is_some (index_where (is_utf8_of wanted) (n + 1) items) ≡ true → is_some (cond b (Some n) (index_where (is_utf8_of wanted) (n + 1) items)) ≡ true
    by true k = refl
    by false k = k

text_found : (pool : List Item) (wanted : List ℕ) → HasText pool wanted → is_some (index_where (is_utf8_of wanted) 1 pool) ≡ true
text_found pool wanted (zero, h) = absurd cc
text_found pool wanted (suc i, h) = found_from wanted 1 pool i h

-- ---- states behind the class

-- a class of which these superinterfaces, fields and methods stand
abbrev classed : Parts → List ℕ → List Member → List Member → Phase → State
classed parts ns fs ms phase = record { phase = phase; parts = record parts { interfaces = ns; fields = fs; methods = ms }; block = empty_block 0 0; unfit = [] }

no_fault : (count : ℕ) (parts : Parts) (phase : Phase) → is_whole phase ≡ true → judged count (record { state = classed parts parts.interfaces parts.fields parts.methods phase; fault = None }) ≡ Ok parts
unfolding first_fault unfit
no_fault count parts phase h = rw h refl

-- ---- superinterfaces

interface_turn : (line : ℕ) (whole : Parts) (ns : List ℕ) (n : ℕ) → IsU2 n → turn line (interface_line n) (classed whole ns [] [] phases.Class) ≡ Ok (classed whole (ns ++ n ∷ []) [] [] phases.Class)
unfolding turn act
interface_turn line whole ns n h = rw (u2_fits n h) refl

interfaces_back : (line : ℕ) (whole : Parts) (before ns : List ℕ) → All IsU2 ns
    → through line (map interface_line ns) (classed whole before [] [] phases.Class) ≡ Ok (classed whole (before ++ ns) [] [] phases.Class)
interfaces_back line whole before [] h = ap (λ (xs : List ℕ). going (classed whole xs [] [] phases.Class)) (sym (append_none before))
interfaces_back line whole before (n ∷ ns) h =
    let one = interface_turn line whole before n (All-head IsU2 n ns h) in
    let more = interfaces_back (line + 1) whole (before ++ n ∷ []) ns (All-tail IsU2 n ns h) in
    rw one (more ∙ ap (λ (xs : List ℕ). going (classed whole xs [] [] phases.Class)) (append_assoc before (n ∷ []) ns))

-- ---- fields

-- lines behind which the class has these fields and methods, and may end
record Reached (line : ℕ) (xs : List (Option Statement)) (s : State) (whole : Parts) (fs ms : List Member) : Type 0 where
  phase : Phase
  ends : is_whole phase ≡ true
  there : through_all line xs s ≡ Ok (classed whole whole.interfaces fs ms phase)

-- fields may stand here
abbrev takes_field : Phase → Bool
takes_field phases.Class = true
takes_field phases.Fields = true
takes_field _ = false

next_field : (phase : Phase) (m : Member) → takes_field phase ≡ true → next phase (field_line m) ≡ Some phases.Fields
next_field phases.Class m h = refl
next_field phases.Fields m h = refl
next_field phases.Start m h = absurd cc
next_field phases.Pool m h = absurd cc
next_field phases.Method m h = absurd cc
next_field phases.Methods m h = absurd cc
next_field phases.Code m h = absurd cc

field_turn : (line : ℕ) (whole : Parts) (fs : List Member) (phase : Phase) (flags name desc : ℕ) (constant : Option ℕ) → takes_field phase ≡ true → IsU2 flags → IsU2 name → IsU2 desc
    → IfSome constant (λ index. IsU2 index × HasText whole.pool (codes "ConstantValue"))
    → turn line (field_line (record { flags = flags; name = name; desc = desc; constant = constant; code = None })) (classed whole whole.interfaces fs [] phase)
    ≡ Ok (classed whole whole.interfaces (fs ++ record { flags = flags; name = name; desc = desc; constant = constant; code = None } ∷ []) [] phases.Fields)
unfolding turn act
field_turn line whole fs phase flags name desc None h a b c k =
    rw (u2_fits flags a, u2_fits name b, u2_fits desc c, next_field phase (record { flags = flags; name = name; desc = desc; constant = None; code = None }) h) refl
field_turn line whole fs phase flags name desc (Some index) h a b c k = by (index_where (is_utf8_of (codes "ConstantValue")) 1 whole.pool) refl (text_found whole.pool (codes "ConstantValue") k.1)
  where
    by : (o : Option ℕ) → index_where (is_utf8_of (codes "ConstantValue")) 1 whole.pool ≡ o → is_some o ≡ true
        → turn line (field_line (record { flags = flags; name = name; desc = desc; constant = Some index; code = None })) (classed whole whole.interfaces fs [] phase)
        ≡ Ok (classed whole whole.interfaces (fs ++ record { flags = flags; name = name; desc = desc; constant = Some index; code = None } ∷ []) [] phases.Fields)
    by None e s = absurd cc
    by (Some i) e s = rw (u2_fits flags a, u2_fits name b, u2_fits desc c, u2_fits index k.0, next_field phase (record { flags = flags; name = name; desc = desc; constant = Some index; code = None }) h, e) refl

apart_through : (line : ℕ) (ss : List Statement) (s : State) → through_all line (apart ss) s ≡ through (line + 1) ss s
apart_through line ss s = some_through (line + 1) ss s

fields_reached : (line : ℕ) (whole : Parts) (before fs : List Member) (phase : Phase) → takes_field phase ≡ true → is_whole phase ≡ true → All (MemberFits whole.pool) fs → All (IsClassField whole.pool) fs
    → Reached line (flat_map (λ m. apart (field_line m ∷ [])) fs) (classed whole whole.interfaces before [] phase) whole (before ++ fs) []
fields_reached line whole before [] phase h w fits kept = record { phase = phase; ends = w; there = ap (λ (xs : List Member). going (classed whole whole.interfaces xs [] phase)) (sym (append_none before)) }
fields_reached line whole before (m ∷ fs) phase h w fits kept =
    let a = All-head (MemberFits whole.pool) m fs fits in
    let none = (All-head (IsClassField whole.pool) m fs kept).code in
    let same : record { flags = m.flags; name = m.name; desc = m.desc; constant = m.constant; code = None } ≡ m = ap (λ (c : Option Code). record { flags = m.flags; name = m.name; desc = m.desc; constant = m.constant; code = c }) (sym none) in
    let turned : turn (line + 1) (field_line m) (classed whole whole.interfaces before [] phase) ≡ Ok (classed whole whole.interfaces (before ++ m ∷ []) [] phases.Fields) =
    field_turn (line + 1) whole before phase m.flags m.name m.desc m.constant h a.flags a.name a.desc a.constant ∙ ap (λ (x : Member). going (classed whole whole.interfaces (before ++ x ∷ []) [] phases.Fields)) same in
    let one : through_all line (apart (field_line m ∷ [])) (classed whole whole.interfaces before [] phase) ≡ Ok (classed whole whole.interfaces (before ++ m ∷ []) [] phases.Fields) =
    apart_through line (field_line m ∷ []) (classed whole whole.interfaces before [] phase) ∙ rw turned refl in
    let more = fields_reached (line + length (apart (field_line m ∷ []))) whole (before ++ m ∷ []) fs phases.Fields refl refl (All-tail (MemberFits whole.pool) m fs fits) (All-tail (IsClassField whole.pool) m fs kept) in
    record {
      phase = more.phase;
      ends = more.ends;
      there = all_joined line (apart (field_line m ∷ [])) (flat_map (λ m. apart (field_line m ∷ [])) fs) _ (classed whole whole.interfaces (before ++ m ∷ []) [] phases.Fields) _ one more.there
          ∙ ap (λ (xs : List Member). going (classed whole whole.interfaces xs [] more.phase)) (append_assoc before (m ∷ []) fs);
    }

-- ---- methods

next_method : (phase : Phase) (flags name desc : ℕ) → is_whole phase ≡ true → next phase (lines.Method (pos flags) (numbered name) (numbered desc)) ≡ Some phases.Method
next_method phases.Class flags name desc h = refl
next_method phases.Fields flags name desc h = refl
next_method phases.Method flags name desc h = refl
next_method phases.Methods flags name desc h = refl
next_method phases.Start flags name desc h = absurd cc
next_method phases.Pool flags name desc h = absurd cc
next_method phases.Code flags name desc h = absurd cc

abbrev headed : ℕ → ℕ → ℕ → Member
headed flags name desc = record { flags = flags; name = name; desc = desc; constant = None; code = None }

method_turn : (line : ℕ) (whole : Parts) (ms : List Member) (phase : Phase) (flags name desc : ℕ) → is_whole phase ≡ true → IsU2 flags → IsU2 name → IsU2 desc
    → turn line (lines.Method (pos flags) (numbered name) (numbered desc)) (classed whole whole.interfaces whole.fields ms phase) ≡ Ok (classed whole whole.interfaces whole.fields (ms ++ headed flags name desc ∷ []) phases.Method)
unfolding turn act
method_turn line whole ms phase flags name desc h a b c = rw (u2_fits flags a, u2_fits name b, u2_fits desc c, next_method phase flags name desc h) refl

with_code_last : (ms : List Member) (m : Member) (code : Code) → with_code (ms ++ m ∷ []) code ≡ ms ++ record m { code = Some code } ∷ []
with_code_last [] m code = refl
with_code_last (n ∷ []) m code = refl
with_code_last (n ∷ (o ∷ ms)) m code = ap (λ (xs : List Member). n ∷ xs) (with_code_last (o ∷ ms) m code)

-- behind a method's head, by its statements alone
record Coded (line : ℕ) (ss : List Statement) (s : State) (whole : Parts) (ms : List Member) : Type 0 where
  phase : Phase
  ends : is_whole phase ≡ true
  there : through line ss s ≡ Ok (classed whole whole.interfaces whole.fields ms phase)

code_reached : (decode : Decoder) (line : ℕ) (whole : Parts) (ms : List Member) (flags name desc : ℕ) (o : Option Code) → IfSome o (λ code. CodeFits code × HasText whole.pool (codes "Code")) → IfSome o (λ code. length code.bytes ≤ 65535)
    → Coded line (code_lines_of decode o) (classed whole whole.interfaces whole.fields (ms ++ headed flags name desc ∷ []) phases.Method) whole (ms ++ record { flags = flags; name = name; desc = desc; constant = None; code = o } ∷ [])
code_reached decode line whole ms flags name desc None h l = record { phase = phases.Method; ends = refl; there = refl }
code_reached decode line whole ms flags name desc (Some code) h l =
    let all = ms ++ headed flags name desc ∷ [] in
    record {
      phase = phases.Methods;
      ends = refl;
      there = code_back decode line code (classed whole whole.interfaces whole.fields all phases.Method) h.0 l (text_found whole.pool (codes "Code") h.1)
          ∙ ap (λ (xs : List Member). going (classed whole whole.interfaces whole.fields xs phases.Methods)) (with_code_last ms (headed flags name desc) code);
    }

methods_reached : (decode : Decoder) (line : ℕ) (whole : Parts) (before ms : List Member) (phase : Phase) → is_whole phase ≡ true → All (MethodFits whole.pool) ms → All (IsClassMethod whole.pool) ms
    → Reached line (flat_map (λ m. apart (method_lines decode m)) ms) (classed whole whole.interfaces whole.fields before phase) whole whole.fields (before ++ ms)
methods_reached decode line whole before [] phase h fits kept = record { phase = phase; ends = h; there = ap (λ (xs : List Member). going (classed whole whole.interfaces whole.fields xs phase)) (sym (append_none before)) }
methods_reached decode line whole before (m ∷ ms) phase h fits kept =
    let a = All-head (MethodFits whole.pool) m ms fits in
    let none = (All-head (IsClassMethod whole.pool) m ms kept).constant in
    let same : record { flags = m.flags; name = m.name; desc = m.desc; constant = None; code = m.code } ≡ m = ap (λ (c : Option ℕ). record { flags = m.flags; name = m.name; desc = m.desc; constant = c; code = m.code }) (sym none) in
    let first = method_turn (line + 1) whole before phase m.flags m.name m.desc h a.0.flags a.0.name a.0.desc in
    let code = code_reached decode ((line + 1) + 1) whole before m.flags m.name m.desc m.code a.0.code a.1 in
    let there : through (line + 1) (method_lines decode m) (classed whole whole.interfaces whole.fields before phase) ≡ Ok (classed whole whole.interfaces whole.fields (before ++ m ∷ []) code.phase) =
    rw first (code.there ∙ ap (λ (x : Member). going (classed whole whole.interfaces whole.fields (before ++ x ∷ []) code.phase)) same) in
    let one = apart_through line (method_lines decode m) (classed whole whole.interfaces whole.fields before phase) ∙ there in
    let more = methods_reached decode (line + length (apart (method_lines decode m))) whole (before ++ m ∷ []) ms code.phase code.ends (All-tail (MethodFits whole.pool) m ms fits) (All-tail (IsClassMethod whole.pool) m ms kept) in
    record {
      phase = more.phase;
      ends = more.ends;
      there = all_joined line (apart (method_lines decode m)) (flat_map (λ m. apart (method_lines decode m)) ms) _ (classed whole whole.interfaces whole.fields (before ++ m ∷ []) code.phase) _ one more.there
          ∙ ap (λ (xs : List Member). going (classed whole whole.interfaces whole.fields xs more.phase)) (append_assoc before (m ∷ []) ms);
    }

-- ---- the whole

abbrev versioned : ℕ → ℕ → State
versioned minor major = record start { parts = record start.parts { minor = minor; major = major } }

version_turn : (line minor major : ℕ) → IsU2 minor → IsU2 major → turn line (lines.Version (pos minor) (pos major)) start ≡ Ok (in_pool (versioned minor major) [])
unfolding turn act
version_turn line minor major a b = rw (u2_fits minor a, u2_fits major b) refl

class_turn : (line minor major flags this super : ℕ) (pool : List Item) (ns : List ℕ) (fs ms : List Member) → IsU2 flags → IsU2 this → IsU2 super
    → turn line (lines.Class (pos flags) (numbered this) (class_shown super)) (in_pool (versioned minor major) pool)
    ≡ Ok (classed (record { minor = minor; major = major; pool = pool; flags = flags; this_class = this; super_class = super; interfaces = ns; fields = fs; methods = ms }) [] [] [] phases.Class)
unfolding turn act
class_turn line minor major flags this zero pool ns fs ms a b c = rw (u2_fits flags a, u2_fits this b) refl
class_turn line minor major flags this (suc super) pool ns fs ms a b c = rw (u2_fits flags a, u2_fits this b, u2_fits (suc super) c) refl

whole_reached : (decode : Decoder) (whole : Parts) → NumbersFit whole → All (IsClassField whole.pool) whole.fields → All (MethodFits whole.pool) whole.methods → All (IsClassMethod whole.pool) whole.methods
    → Reached 1 (statements decode whole) start whole whole.fields whole.methods
unfolding statements
whole_reached decode whole h fs mf ms =
    let s = versioned whole.minor whole.major in
    let pool = map Some (entries 1 whole.pool) in
    let ns = map interface_line whole.interfaces in
    let head = lines.Class (pos whole.flags) (numbered whole.this_class) (class_shown whole.super_class) ∷ ns in
    let fields = flat_map (λ m. apart (field_line m ∷ [])) whole.fields in
    let methods = flat_map (λ m. apart (method_lines decode m)) whole.methods in
    let one = version_turn 1 whole.minor whole.major h.minor h.major in
    let two : through_all 2 pool (in_pool s []) ≡ Ok (in_pool s whole.pool) = some_through 2 (entries 1 whole.pool) (in_pool s []) ∙ pool_back 2 whole.pool s h.count h.pool in
    let l = 2 + length pool in
    let three = class_turn (l + 1) whole.minor whole.major whole.flags whole.this_class whole.super_class whole.pool whole.interfaces whole.fields whole.methods h.flags h.this_class h.super_class in
    let four = interfaces_back ((l + 1) + 1) whole [] whole.interfaces h.interfaces in
    let class_there : through (l + 1) head (in_pool s whole.pool) ≡ Ok (classed whole whole.interfaces [] [] phases.Class) = rw three four in
    let class_lines : through_all l (apart head) (in_pool s whole.pool) ≡ Ok (classed whole whole.interfaces [] [] phases.Class) = apart_through l head (in_pool s whole.pool) ∙ class_there in
    let l2 = l + length (apart head) in
    let five = fields_reached l2 whole [] whole.fields phases.Class refl refl h.fields fs in
    let six = methods_reached decode (l2 + length fields) whole [] whole.methods five.phase five.ends mf ms in
    let seven = all_joined l2 fields methods (classed whole whole.interfaces [] [] phases.Class) (classed whole whole.interfaces whole.fields [] five.phase) _ five.there six.there in
    let eight = all_joined l (apart head) (fields ++ methods) (in_pool s whole.pool) (classed whole whole.interfaces [] [] phases.Class) _ class_lines seven in
    let nine = all_joined 2 pool (apart head ++ (fields ++ methods)) (in_pool s []) (in_pool s whole.pool) _ two eight in
    record { phase = six.phase; ends = six.ends; there = rw one nine }

few_bytes : (o : Option Code) → IfSome o (λ code. (1 ≤ length code.bytes) × (length code.bytes ≤ 65535)) → IfSome o (λ code. length code.bytes ≤ 65535)
few_bytes None h = tt
few_bytes (Some code) h = h.1

methods_fit : (parts : Parts) → NumbersFit parts → All (IsClassMethod parts.pool) parts.methods → All (MethodFits parts.pool) parts.methods
methods_fit parts h ms = λ k d l. (h.methods k d l, few_bytes _ (ms k d l).code)

-- of any parts that keep what a class file keeps, whatever is taken for the instructions
assembled_again : (whole : Parts) → NumbersFit whole → All (IsClassField whole.pool) whole.fields → All (IsClassMethod whole.pool) whole.methods → assembled (disassembly whole) ≡ Ok whole
unfolding assembled disassembly statements
assembled_again whole h fs ms =
    let mf = methods_fit whole h ms in
    let r = whole_reached standard whole h fs mf ms in
    let good = statements_good standard whole h mf in
    let rest = map Some (entries 1 whole.pool) ++ (apart (lines.Class (pos whole.flags) (numbered whole.this_class) (class_shown whole.super_class) ∷ map interface_line whole.interfaces)
    ++ (flat_map (λ m. apart (field_line m ∷ [])) whole.fields ++ flat_map (λ m. apart (method_lines standard m)) whole.methods)) in
    let lines = lines_back whole.pool (Some (lines.Version (pos whole.minor) (pos whole.major))) rest good in
    let said = all_said whole.pool (statements standard whole) good in
    let ran = run_back 1 (statements standard whole) start _ r.there in
    rw (lines, said, ran) (no_fault _ whole r.phase r.ends)

pub parts_again : PartsAgain
parts_again whole is = assembled_again whole (numbers_fit whole is) (fields_kept whole is) (methods_kept whole is)

pub class_again : ClassAgain
unfolding class_of
class_again whole is = rw (parts_again whole is, rebuilt_is whole is) refl
