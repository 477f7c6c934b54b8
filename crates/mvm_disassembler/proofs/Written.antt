-- Lines, as they are written one behind the other.
use Rattle.std.proofs.Common.{◌≡◌, ℕ, true, false, List, [], ◌∷◌, ◌++◌, length, map, Option, Some, refl, sym, ap, ◌∙◌, append_assoc, append-nil}
use Rattle.std.specs.Prelude.{pos, flat_map, replicate, IsTrue}
use Rattle.std.specs.BTreeSet.{BTreeSet}
use Rattle.std.specs.Prelude.{ℤ}
use Rattle.std.specs.List.{list_all}
use Rattle.mvm_layout.specs.declared.parts.Item.{Item}
use Rattle.mvm_layout.specs.declared.parts.Item.TheVariants as items
use Rattle.mvm_layout.specs.declared.parts.Member.{Member}
use Rattle.mvm_layout.specs.declared.parts.Parts.{Parts}
use Rattle.mvm_classfile.specs.Writing.{lists_fit, has_few_bytes, is_countable}
use Rattle.mvm_statement.specs.Statements.{text_of}
use Rattle.mvm_statement.specs.declared.statement.Statement.{Statement}
use Rattle.mvm_statement.specs.declared.statement.Statement.TheVariants as lines
use Rattle.mvm_listing.specs.declared.piece.Piece.{Piece}
use Rattle.mvm_listing.specs.LaidOut.{depth, plain, commented, remark, line_text, any_text, laid_out}
use Rattle.mvm_listing.specs.Disassembly.{value_of, entry_line, entries, numbered, class_shown, interface_line, field_line, method_lines, label, mark, piece_line, apart, statements, standard, disassembly}
use Rattle.mvm_listing.proofs.Tests.{parts as both}
use Rattle.mvm_disassembler.specs.Steps.{holds, shown_by, marked_by, cut, comment, whole_line, lines_text, piece_text, interface_text, field_text, method_text, head_text}

-- ---- one line

pub comment_is : (units : List ℕ) → (length units ≡ 0 → ⊥) → comment units ≡ 32 ∷ 59 ∷ 32 ∷ map plain units
comment_is [] h = absurd (h refl)
comment_is (u ∷ us) h = refl

comment_cut : (units : List ℕ) → comment (cut units) ≡ commented units
unfolding cut
comment_cut [] = refl
comment_cut (u ∷ us) = refl

-- the blanks before a line, the line, a comment and the end of the line
line_ends : (before blanks text remark : List ℕ) → (((before ++ blanks) ++ text) ++ remark) ++ 10 ∷ [] ≡ before ++ ((blanks ++ (text ++ remark)) ++ 10 ∷ [])
line_ends before blanks text remark =
    let whole = blanks ++ (text ++ remark) in
    ap (λ (t : List ℕ). t ++ 10 ∷ []) (ap (λ (t : List ℕ). t ++ remark) (append_assoc before blanks text) ∙ append_assoc before (blanks ++ text) remark ∙ ap (λ (t : List ℕ). before ++ t) (append_assoc blanks text remark))
    ∙ append_assoc before whole (10 ∷ [])

pub line_written : (pool : List Item) (s : Statement) (before blanks units : List ℕ) → blanks ≡ replicate (depth s) 32 → units ≡ cut (remark pool s)
    → (((before ++ blanks) ++ text_of s) ++ comment units) ++ 10 ∷ [] ≡ before ++ whole_line pool s
unfolding whole_line
line_written pool s before blanks units b u =
    let same : comment units ≡ commented (remark pool s) = ap comment u ∙ comment_cut (remark pool s) in
    ap (λ (t : List ℕ). (((before ++ blanks) ++ text_of s) ++ t) ++ 10 ∷ []) same ∙ ap (λ (t : List ℕ). (((before ++ t) ++ text_of s) ++ commented (remark pool s)) ++ 10 ∷ []) b
    ∙ line_ends before (replicate (depth s) 32) (text_of s) (commented (remark pool s))

-- ---- lines

pub lines_joined : (pool : List Item) (xs ys : List Statement) → lines_text pool (xs ++ ys) ≡ lines_text pool xs ++ lines_text pool ys
lines_joined pool [] ys = refl
lines_joined pool (x ∷ xs) ys = ap (λ (t : List ℕ). whole_line pool x ++ t) (lines_joined pool xs ys) ∙ sym (append_assoc (whole_line pool x) (lines_text pool xs) (lines_text pool ys))

one_line : (pool : List Item) (s : Statement) → lines_text pool (s ∷ []) ≡ whole_line pool s
one_line pool s = append-nil (whole_line pool s)

pub entry_line_is : (n : ℕ) (item : Item) → (item ≡ items.Upper → ⊥) → entry_line n item ≡ lines.Entry (pos n) (value_of item) ∷ []
entry_line_is n items.Upper h = absurd (h refl)
entry_line_is n (items.Utf8 text) h = refl
entry_line_is n (items.Integer x) h = refl
entry_line_is n (items.Float x) h = refl
entry_line_is n (items.Long x) h = refl
entry_line_is n (items.Double x) h = refl
entry_line_is n (items.Class x) h = refl
entry_line_is n (items.Str x) h = refl
entry_line_is n (items.Fieldref x y) h = refl
entry_line_is n (items.Methodref x y) h = refl
entry_line_is n (items.InterfaceMethodref x y) h = refl
entry_line_is n (items.NameAndType x y) h = refl
entry_line_is n (items.MethodHandle x y) h = refl
entry_line_is n (items.MethodType x) h = refl
entry_line_is n (items.InvokeDynamic x y) h = refl

-- the label of a place to which something leads
pub mark_there : (pool : List Item) (set : BTreeSet ℤ) (at : ℕ) (before name : List ℕ) → holds set (pos at) ≡ true → name ≡ label at → before ++ whole_line pool (lines.Label name) ≡ before ++ lines_text pool (mark (marked_by set) at)
mark_there pool set at before name h e = rw (h, e) (ap (λ (t : List ℕ). before ++ t) (sym (append-nil (whole_line pool (lines.Label (label at))))))

-- and no label where nothing does
pub mark_none : (pool : List Item) (set : BTreeSet ℤ) (at : ℕ) (before : List ℕ) → holds set (pos at) ≡ false → before ++ lines_text pool (mark (marked_by set) at) ≡ before
mark_none pool set at before h = rw h (append-nil before)

pub piece_is : (pool : List Item) (targets begins : BTreeSet ℤ) (at : ℕ) (piece : Piece)
    → piece_text pool targets begins (at, piece) ≡ lines_text pool (mark (marked_by targets) at) ++ whole_line pool (piece_line (shown_by begins) piece)
unfolding piece_text
piece_is pool targets begins at piece =
    lines_joined pool (mark (marked_by targets) at) (piece_line (shown_by begins) piece ∷ []) ∙ ap (λ (t : List ℕ). lines_text pool (mark (marked_by targets) at) ++ t) (one_line pool (piece_line (shown_by begins) piece))

-- ---- the whole

laid_joined : (pool : List Item) (xs ys : List (Option Statement)) → laid_out pool (xs ++ ys) ≡ laid_out pool xs ++ laid_out pool ys
laid_joined pool [] ys = refl
laid_joined pool (x ∷ xs) ys = ap (λ (t : List ℕ). (any_text pool x ++ 10 ∷ []) ++ t) (laid_joined pool xs ys) ∙ sym (append_assoc (any_text pool x ++ 10 ∷ []) (laid_out pool xs) (laid_out pool ys))

some_lines : (pool : List Item) (ss : List Statement) → laid_out pool (map Some ss) ≡ lines_text pool ss
unfolding whole_line
some_lines pool [] = refl
some_lines pool (s ∷ ss) = ap (λ (t : List ℕ). (line_text pool s ++ 10 ∷ []) ++ t) (some_lines pool ss)

fields_are : (pool : List Item) (ms : List Member) → laid_out pool (flat_map (λ m. apart (field_line m ∷ [])) ms) ≡ flat_map (field_text pool) ms
unfolding whole_line field_text
fields_are pool [] = refl
fields_are pool (m ∷ ms) = ap (λ (t : List ℕ). 10 ∷ ((line_text pool (field_line m) ++ 10 ∷ []) ++ t)) (fields_are pool ms)

methods_are : (pool : List Item) (ms : List Member) → laid_out pool (flat_map (λ m. apart (method_lines standard m)) ms) ≡ flat_map (method_text pool) ms
unfolding method_text
methods_are pool [] = refl
methods_are pool (m ∷ ms) =
    let ls = method_lines standard m in
    let rest = flat_map (λ (n : Member). apart (method_lines standard n)) ms in
    ap (λ (t : List ℕ). 10 ∷ t) (laid_joined pool (map Some ls) rest ∙ ap (λ (t : List ℕ). t ++ laid_out pool rest) (some_lines pool ls) ∙ ap (λ (t : List ℕ). lines_text pool ls ++ t) (methods_are pool ms))

interfaces_are : (pool : List Item) (ns : List ℕ) → lines_text pool (map interface_line ns) ≡ flat_map (interface_text pool) ns
unfolding interface_text
interfaces_are pool [] = refl
interfaces_are pool (n ∷ ns) = ap (λ (t : List ℕ). whole_line pool (interface_line n) ++ t) (interfaces_are pool ns)

-- the text of a class file, by its parts
disassembly_is : (parts : Parts) → disassembly parts ≡ head_text parts ++ (flat_map (field_text parts.pool) parts.fields ++ flat_map (method_text parts.pool) parts.methods)
unfolding disassembly statements whole_line
disassembly_is parts =
    let pool = parts.pool in
    let first = lines.Version (pos parts.minor) (pos parts.major) in
    let es = entries 1 pool in
    let named = lines.Class (pos parts.flags) (numbered parts.this_class) (class_shown parts.super_class) in
    let class = named ∷ map interface_line parts.interfaces in
    let above = whole_line pool named ++ flat_map (interface_text pool) parts.interfaces in
    let known : lines_text pool class ≡ above = ap (λ (t : List ℕ). whole_line pool named ++ t) (interfaces_are pool parts.interfaces) in
    let fields = flat_map (λ (m : Member). apart (field_line m ∷ [])) parts.fields in
    let methods = flat_map (λ (m : Member). apart (method_lines standard m)) parts.methods in
    let members = flat_map (field_text pool) parts.fields ++ flat_map (method_text pool) parts.methods in
    let last : laid_out pool (fields ++ methods) ≡ members = laid_joined pool fields methods ∙ ap (λ (t : List ℕ). t ++ laid_out pool methods) (fields_are pool parts.fields) ∙ ap (λ (t : List ℕ). flat_map (field_text pool) parts.fields ++ t) (methods_are pool parts.methods) in
    let middle : laid_out pool (map Some class ++ (fields ++ methods)) ≡ above ++ members =
    laid_joined pool (map Some class) (fields ++ methods) ∙ ap (λ (t : List ℕ). t ++ laid_out pool (fields ++ methods)) (some_lines pool class) ∙ ap (λ (t : List ℕ). lines_text pool class ++ t) last ∙ ap (λ (t : List ℕ). t ++ members) known in
    let all : laid_out pool (map Some es ++ (apart class ++ (fields ++ methods))) ≡ lines_text pool es ++ 10 ∷ (above ++ members) =
    laid_joined pool (map Some es) (apart class ++ (fields ++ methods)) ∙ ap (λ (t : List ℕ). t ++ laid_out pool (apart class ++ (fields ++ methods))) (some_lines pool es) ∙ ap (λ (t : List ℕ). lines_text pool es ++ 10 ∷ t) middle in
    ap (λ (t : List ℕ). whole_line pool first ++ t) (all ∙ sym (append_assoc (lines_text pool es) (10 ∷ above) members))
    ∙ sym (append_assoc (whole_line pool first) (lines_text pool es ++ 10 ∷ above) members)

-- part by part
pub all_written : (p parts : Parts) (head fields whole : List ℕ) → head ≡ head_text p → fields ≡ head ++ flat_map (field_text p.pool) p.fields → whole ≡ fields ++ flat_map (method_text p.pool) p.methods → p ≡ parts → whole ≡ disassembly parts
all_written p parts head fields whole h f m e =
    let members = flat_map (field_text p.pool) p.fields in
    let methods = flat_map (method_text p.pool) p.methods in
    m ∙ ap (λ (t : List ℕ). t ++ methods) (f ∙ ap (λ (t : List ℕ). t ++ members) h) ∙ append_assoc (head_text p) members methods ∙ sym (disassembly_is p) ∙ ap disassembly e

-- the codes of a class file are short
pub few_bytes : (p : Parts) → IsTrue (is_countable p) → IsTrue (list_all (λ m. has_few_bytes m.code) p.methods)
unfolding is_countable
few_bytes p h = (both (lists_fit p) _ h).1
