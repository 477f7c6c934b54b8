-- The parts of a class file can be written, and what is written of them reads as them.
use Rattle.std.proofs.Common.{◌≡◌, ℕ, ◌+◌, ◌<◌, ◌≤◌, ◌^◌, Bool, true, List, [], ◌++◌, length, Result, Ok, refl, sym, ap, subst, ◌∙◌, length-append, append_assoc, arith}
use Rattle.mvm_base.proofs.Bytes.{left_bytes, right_bytes}
use Rattle.mvm_base.specs.Bytes.{AreBytes}
use Rattle.std.specs.Prelude.{nat_lt, map}
use Rattle.std.specs.List.{flat_map, list_all}
use Rattle.std.proofs.lemmas.Bool.{lt-ltb}
use Rattle.std.proofs.lemmas.List.{length-map}
use Rattle.mvm_base.specs.Answers.{AnswersUnless}
use Rattle.mvm_layout.specs.Format.{spells_times}
use Rattle.mvm_layout.specs.Layout.{member, members, magic, major, body, Body, info_of, layout}
use Rattle.mvm_layout.specs.declared.fault.ClassFault.{ClassFault}
use Rattle.mvm_layout.specs.declared.fault.ClassFault.TheVariants.{OutOfMemory}
use Rattle.mvm_layout.specs.declared.parts.Item.{Item}
use Rattle.mvm_layout.specs.declared.parts.Member.{Member}
use Rattle.mvm_layout.specs.declared.parts.Parts.{Parts}
use Rattle.mvm_layout.specs.declared.info.MemberInfo.{MemberInfo}
use Rattle.mvm_layout.specs.declared.info.ClassInfo.{ClassInfo}
use Rattle.mvm_base.specs.Rules.{each_after}
use Rattle.mvm_shape.specs.Members.{field_rule, method_rule, field_part, method_part}
use Rattle.mvm_layout.specs.Flags.{is_interface}
use Rattle.mvm_shape.specs.Shape.{parts_of}
use Rattle.mvm_classfile.specs.Reading.{IsClassFile}
use Rattle.mvm_classfile.specs.Writing.{u2, u4, names_in, written_pool, written_member, written_members, written, fits_code, lists_fit, has_few_bytes, is_countable, fits, rebuilt}
use Rattle.mvm_classfile.proofs.Items.{pool_plain, PoolShort, pool_short}
use Rattle.mvm_classfile.proofs.Pieces.{MemberFits, member_fits, counted_each, interfaces_plain, interfaces_lt, at_least_two}
use Rattle.mvm_classfile.proofs.Rule.{kept, and_again}
use Rattle.mvm_classfile.proofs.Shorter.{fields_shorter, methods_short, fields_rows}
use Rattle.mvm_classfile.proofs.Answered.{reading-complete}
use Rattle.mvm_classfile.proofs.Whole.{members_lt, rules_kept, written_again}

-- the written form of these members
abbrev written_list : List Item → List Member → List ℕ
written_list pool ms = u2 (length ms) ++ flat_map (written_member (names_in pool)) ms

-- ---- members

fields_room : (pool : List Item) (is : Bool) (ms : List MemberInfo) (at : ℕ) (t : List ℕ) → AreBytes t → members.spells ms at t → each_after [] (field_rule pool is) ms ≡ kept → length (written_list pool (map (field_part pool) ms)) ≤ length t
unfolding members
fields_room pool is ms at t b s k =
    let h = s.1 in
    let fits = counted_each member MemberFits member_fits ms at t b s in
    let len : length t ≡ length h.0 + length h.1 = ap length h.4 ∙ length-append h.0 h.1 in
    let one = fields_shorter pool (names_in pool) is [] s.0.0 ms (at + length h.0) h.1 (subst (λ (z : List MemberInfo). spells_times member s.0.0 z (at + length h.0) h.1) s.2 h.3) fits k in
    omega (arith, len, one, h.2.0)

record Methods (pool : List Item) (ms : List MemberInfo) (t : List ℕ) : Type 0 where
  room : length (written_list pool (map (method_part pool) ms)) ≤ length t
  rows : list_all (λ (x : Member). fits_code x.code) (map (method_part pool) ms) ≡ true
  bytes : list_all (λ (x : Member). has_few_bytes x.code) (map (method_part pool) ms) ≡ true

methods_room : (pool : List Item) (version : ℕ) (is : Bool) (ms : List MemberInfo) (at : ℕ) (t : List ℕ) → AreBytes t → members.spells ms at t → each_after [] (method_rule pool version is) ms ≡ kept → Methods pool ms t
unfolding members
methods_room pool version is ms at t b s k =
    let h = s.1 in
    let fits = counted_each member MemberFits member_fits ms at t b s in
    let len : length t ≡ length h.0 + length h.1 = ap length h.4 ∙ length-append h.0 h.1 in
    let one = methods_short pool (names_in pool) version is [] s.0.0 ms (at + length h.0) h.1 (subst (λ (z : List MemberInfo). spells_times member s.0.0 z (at + length h.0) h.1) s.2 h.3) fits k in
    record { room = omega (arith, len, one.room, h.2.0); rows = one.rows; bytes = one.bytes }

-- ---- the whole

record Short (info : ClassInfo) (t : List ℕ) : Type 0 where
  pool : PoolShort info.pool
  interfaces : length info.interfaces < 256 ^ 2
  fields : length info.fields < 256 ^ 2
  methods : length info.methods < 256 ^ 2
  rows : list_all (λ (x : Member). fits_code x.code) (map (method_part info.pool) info.methods) ≡ true
  bytes : list_all (λ (x : Member). has_few_bytes x.code) (map (method_part info.pool) info.methods) ≡ true
  room : 4 + (2 + (2 + (length (written_pool info.pool) + (2 + (2 + (2 + (length (u2 (length info.interfaces) ++ flat_map u2 info.interfaces) + (length (written_list info.pool (map (field_part info.pool) info.fields)) + (length (written_list info.pool (map (method_part info.pool) info.methods)) + 2)))))))))
      ≤ length t

record BodyShort (pool : List Item) (x : Body) (t : List ℕ) : Type 0 where
  interfaces : length x.1.1.1.0 < 256 ^ 2
  fields : length x.1.1.1.1.0 < 256 ^ 2
  methods : length x.1.1.1.1.1.0 < 256 ^ 2
  rows : list_all (λ (y : Member). fits_code y.code) (map (method_part pool) x.1.1.1.1.1.0) ≡ true
  bytes : list_all (λ (y : Member). has_few_bytes y.code) (map (method_part pool) x.1.1.1.1.1.0) ≡ true
  room : 2 + (2 + (2 + (length (u2 (length x.1.1.1.0) ++ flat_map u2 x.1.1.1.0) + (length (written_list pool (map (field_part pool) x.1.1.1.1.0)) + (length (written_list pool (map (method_part pool) x.1.1.1.1.1.0)) + 2)))))
      ≤ length t

pieces : (s t text : List ℕ) → text ≡ s ++ t → length text ≡ length s + length t
pieces s t text e = ap length e ∙ length-append s t

body_short : (pool : List Item) (version : ℕ) (is : Bool) (x : Body) (at : ℕ) (t : List ℕ) → AreBytes t → body.spells x at t → each_after [] (field_rule pool is) x.1.1.1.1.0 ≡ kept → each_after [] (method_rule pool version is) x.1.1.1.1.1.0 ≡ kept → BodyShort pool x t
unfolding body
body_short pool version is x at t b h fk mk =
    let b1 = right_bytes t h.0 h.1 h.4 b in
    let i = h.3 in
    let b2 = right_bytes h.1 i.0 i.1 i.4 b1 in
    let j = i.3 in
    let b3 = right_bytes i.1 j.0 j.1 j.4 b2 in
    let k = j.3 in
    let b4 = right_bytes j.1 k.0 k.1 k.4 b3 in
    let l = k.3 in
    let b5 = right_bytes k.1 l.0 l.1 l.4 b4 in
    let m = l.3 in
    let c3 = left_bytes j.1 k.0 k.1 k.4 b3 in
    let c4 = left_bytes k.1 l.0 l.1 l.4 b4 in
    let c5 = left_bytes l.1 m.0 m.1 m.4 b5 in
    let is_text : length k.0 ≡ length (u2 (length x.1.1.1.0) ++ flat_map u2 x.1.1.1.0) = ap length (interfaces_plain.written x.1.1.1.0 _ k.0 c3 k.2) in
    let f = fields_room pool is x.1.1.1.1.0 _ l.0 c4 l.2 fk in
    let ms = methods_room pool version is x.1.1.1.1.1.0 _ m.0 c5 m.2 mk in
    let n = at_least_two x.1.1.1.1.1.1 _ m.1 m.3 in
    record {
      interfaces = interfaces_lt x.1.1.1.0 _ k.0 c3 k.2;
      fields = members_lt x.1.1.1.1.0 _ l.0 c4 l.2;
      methods = members_lt x.1.1.1.1.1.0 _ m.0 c5 m.2;
      rows = ms.rows;
      bytes = ms.bytes;
      room = omega (arith, pieces h.0 h.1 t h.4, h.2.1.0, pieces i.0 i.1 h.1 i.4, i.2.0, pieces j.0 j.1 i.1 j.4, j.2.0, pieces k.0 k.1 j.1 k.4, is_text, pieces l.0 l.1 k.1 l.4, f, pieces m.0 m.1 l.1 m.4, ms.room, n);
    }

magic_length : (n at : ℕ) (t : List ℕ) → magic.spells n at t → length t ≡ 4
unfolding magic
magic_length n at t s = s.1.0

major_length : (n at : ℕ) (t : List ℕ) → major.spells n at t → length t ≡ 2
unfolding major
major_length n at t s = s.1.0

short : (info : ClassInfo) (at : ℕ) (t : List ℕ) → AreBytes t → layout.spells info at t → each_after [] (field_rule info.pool (is_interface info.flags)) info.fields ≡ kept → each_after [] (method_rule info.pool info.major (is_interface info.flags)) info.methods ≡ kept → Short info t
unfolding layout
short info at t b s fk mk =
    let x = s.0 in
    let h = s.1 in
    let b1 = right_bytes t h.0 h.1 h.4 b in
    let i = h.3 in
    let b2 = right_bytes h.1 i.0 i.1 i.4 b1 in
    let j = i.3 in
    let b3 = right_bytes i.1 j.0 j.1 j.4 b2 in
    let k = j.3 in
    let b4 = right_bytes j.1 k.0 k.1 k.4 b3 in
    let c3 = left_bytes j.1 k.0 k.1 k.4 b3 in
    let fx = subst (λ (z : ClassInfo). each_after [] (field_rule z.pool (is_interface z.flags)) z.fields ≡ kept) (sym s.2) fk in
    let mx = subst (λ (z : ClassInfo). each_after [] (method_rule z.pool z.major (is_interface z.flags)) z.methods ≡ kept) (sym s.2) mk in
    let f = body_short x.1.1.1.0 (info_of x).major (is_interface (info_of x).flags) x.1.1.1.1 _ k.1 b4 k.3 fx mx in
    let p : length k.0 ≡ length (written_pool x.1.1.1.0) = ap length (pool_plain.written x.1.1.1.0 _ k.0 c3 k.2) in
    let made : Short (info_of x) t = record {
      pool = pool_short x.1.1.1.0 _ k.0 c3 k.2;
      interfaces = f.interfaces;
      fields = f.fields;
      methods = f.methods;
      rows = f.rows;
      bytes = f.bytes;
      room = omega (arith, pieces h.0 h.1 t h.4, magic_length x.0 at h.0 h.2, pieces i.0 i.1 h.1 i.4, i.2.0, pieces j.0 j.1 i.1 j.4, major_length x.1.1.0 _ j.0 j.2, pieces k.0 k.1 j.1 k.4, p, f.room);
    } in
    subst (λ (z : ClassInfo). Short z t) s.2 made

regroup : (a b c d e f g h i j k l : List ℕ) → a ++ b ++ c ++ d ++ e ++ f ++ g ++ h ++ i ++ j ++ k ++ l ≡ a ++ (b ++ (c ++ (d ++ (e ++ (f ++ (g ++ ((h ++ i) ++ (j ++ (k ++ l)))))))))
regroup a b c d e f g h i j k l = simp append_assoc

lengths : (a b c d e f g hi j k l : List ℕ) → length (a ++ (b ++ (c ++ (d ++ (e ++ (f ++ (g ++ (hi ++ (j ++ (k ++ l)))))))))) ≡ length a + (length b + (length c + (length d + (length e + (length f + (length g + (length hi + (length j + (length k + length l)))))))))
lengths a b c d e f g hi j k l = simp length-append

written_length : (info : ClassInfo) → length (written (parts_of info)) ≡ 4 + (2 + (2 + (length (written_pool info.pool) + (2 + (2 + (2 + (length (u2 (length info.interfaces) ++ flat_map u2 info.interfaces) + (length (written_list info.pool (map (field_part info.pool) info.fields)) + (length (written_list info.pool (map (method_part info.pool) info.methods)) + 2)))))))))
unfolding written written_members parts_of
written_length info =
    ap length (regroup (u4 0xCAFEBABE) (u2 info.minor) (u2 info.major) (written_pool info.pool) (u2 info.flags) (u2 info.this_class) (u2 info.super_class) (u2 (length info.interfaces)) (flat_map u2 info.interfaces) (written_list info.pool (map (field_part info.pool) info.fields)) (written_list info.pool (map (method_part info.pool) info.methods)) (u2 0))
    ∙ lengths (u4 0xCAFEBABE) (u2 info.minor) (u2 info.major) (written_pool info.pool) (u2 info.flags) (u2 info.this_class) (u2 info.super_class) (u2 (length info.interfaces) ++ flat_map u2 info.interfaces) (written_list info.pool (map (field_part info.pool) info.fields)) (written_list info.pool (map (method_part info.pool) info.methods)) (u2 0)

below : (n : ℕ) → n < 256 ^ 2 → nat_lt n (2 ^ 16) ≡ true
below n h = lt-ltb _ _ (omega arith)

lists_short : (info : ClassInfo) (t : List ℕ) → Short info t → lists_fit (parts_of info) ≡ true
unfolding lists_fit parts_of
lists_short info t s =
    let fl : length (map (field_part info.pool) info.fields) < 256 ^ 2 = rw length-map s.fields in
    let ml : length (map (method_part info.pool) info.methods) < 256 ^ 2 = rw length-map s.methods in
    rw (below _ s.pool.count, s.pool.texts, below _ s.interfaces, below _ fl, below _ ml, fields_rows info.pool info.fields, s.rows) refl

info_fits : (info : ClassInfo) (t : List ℕ) → length t < 2 ^ 32 → Short info t → fits (parts_of info) ≡ true
unfolding fits
info_fits info t len s =
    let w : length (written (parts_of info)) < 2 ^ 32 = omega (arith, written_length info, s.room) in
    rw (lists_short info t s, lt-ltb _ _ w) refl

info_countable : (info : ClassInfo) (t : List ℕ) → Short info t → is_countable (parts_of info) ≡ true
unfolding is_countable parts_of
info_countable info t s = and_again _ _ (lists_short info t s) s.bytes

reads_short : (parts : Parts) (is : IsClassFile parts) → Short is.reads.info is.text
reads_short parts is =
    let r = is.reads in
    let k = rules_kept r.info r.kept in
    short r.info 0 is.text is.bytes r.spelled k.fields k.methods

-- the lists of a class file are short enough for their counts, and so is the code of its methods
pub countable : (parts : Parts) → IsClassFile parts → is_countable parts ≡ true
countable parts is = subst (λ (p : Parts). is_countable p ≡ true) (sym is.reads.parts_are) (info_countable is.reads.info is.text (reads_short parts is))

parts_fit : (parts : Parts) → IsClassFile parts → fits parts ≡ true
parts_fit parts is = subst (λ (p : Parts). fits p ≡ true) (sym is.reads.parts_are) (info_fits is.reads.info is.text is.short (reads_short parts is))

pub rebuilt_is : (parts : Parts) → IsClassFile parts → rebuilt parts ≡ Ok parts
unfolding rebuilt
rebuilt_is parts is = rw (parts_fit parts is) (reading-complete (written parts) parts (written_again parts is))

-- what an answer says of the parts of a class file
pub made : (parts : Parts) (answer : Result Parts ClassFault) → AnswersUnless OutOfMemory answer (rebuilt parts) → IsClassFile parts → AnswersUnless OutOfMemory answer (Ok parts)
made parts answer h is = subst (λ (d : Result Parts ClassFault). AnswersUnless OutOfMemory answer d) (rebuilt_is parts is) h
