-- What is written of a class file is no longer than what spelled it, and each list is short enough for its count.
use Rattle.std.proofs.Common.{◌≡◌, ℕ, zero, suc, ◌+◌, ◌≤◌, Bool, true, false, cond, List, [], ◌∷◌, ◌++◌, length, Option, Some, None, refl, sym, ap, subst, ◌∙◌, length-append, append-nil, arith}
use Rattle.std.specs.Prelude.{map, codes}
use Rattle.std.specs.List.{flat_map, filter, list_all}
use Rattle.std.specs.Option.{option_map}
use Rattle.std.proofs.lemmas.Bool.{lt-ltb, le-leb}
use Rattle.mvm_layout.specs.Infos.{AttributeParts}
use Rattle.mvm_layout.specs.Format.{spells_times}
use Rattle.mvm_layout.specs.Layout.{attribute_of, attribute, attributes, member_of, member, code_in}
use Rattle.mvm_layout.specs.declared.parts.Item.{Item}
use Rattle.mvm_layout.specs.declared.parts.Code.{Code}
use Rattle.mvm_layout.specs.declared.parts.Member.{Member}
use Rattle.mvm_layout.specs.declared.info.MemberInfo.{MemberInfo}
use Rattle.mvm_layout.specs.declared.info.CodeInfo.{CodeInfo}
use Rattle.mvm_layout.proofs.Layouts.{code_in-sound}
use Rattle.mvm_base.specs.Rules.{each_after}
use Rattle.mvm_layout.specs.Flags.{is_static}
use Rattle.mvm_shape.specs.Members.{is_named, is_repeated, field_rule, method_rule, first, index_in, field_part, code_of_info, code_of, method_part}
use Rattle.mvm_classfile.specs.Writing.{Names, written_code, written_member, fits_code, has_few_bytes}
use Rattle.mvm_classfile.proofs.Pieces.{Each, AttributeFits, MemberFits, CodeFits, code_fits, at_least_two}
use Rattle.mvm_classfile.proofs.Rule.{kept, both}
use Rattle.mvm_classfile.proofs.Fields.{constant_length}
use Rattle.mvm_classfile.proofs.Methods.{method_kept, first_code}

-- ---- attributes

attribute_length : (a : AttributeParts) (at : ℕ) (t : List ℕ) → attribute.spells a at t → length t ≡ 6 + length a.content
unfolding attribute
attribute_length a at t s =
    let h = s.1.1 in
    let i = h.3.1 in
    let one : length t ≡ length h.0 + length h.1 = ap length h.4 ∙ length-append h.0 h.1 in
    let two : length h.1 ≡ length i.0 + length i.1 = ap length i.4 ∙ length-append i.0 i.1 in
    let three : length i.1 ≡ length s.0.1.1 = ap length (i.3.0 ∙ h.3.2) in
    let e : length t ≡ 6 + length (attribute_of s.0).content = omega (arith, one, two, three, h.2.0, i.2.0) in
    subst (λ (z : AttributeParts). length t ≡ 6 + length z.content) s.2 e

holding : (test : AttributeParts → Bool) (a : AttributeParts) (more : List AttributeParts) (n : ℕ) (xs : List AttributeParts) (at : ℕ) (t : List ℕ) → spells_times attribute n xs at t → filter test xs ≡ a ∷ more → 6 + length a.content ≤ length t
holding test a more zero xs at t s e = absurd (let k = rw s.0 at e in cc)
holding test a more (suc n) [] at t s e = absurd s
holding test a more (suc n) (x ∷ xs) at t s e = by (test x) refl e (holding test a more n xs (at + length s.0) s.1 s.3)
  where
    by : (b : Bool) → test x ≡ b → cond b (x ∷ filter test xs) (filter test xs) ≡ a ∷ more → (filter test xs ≡ a ∷ more → 6 + length a.content ≤ length s.1) → 6 + length a.content ≤ length t
    by true h f rest =
        let k : x ≡ a = cc in
        let len : length t ≡ length s.0 + length s.1 = ap length s.4 ∙ length-append s.0 s.1 in
        let one : length s.0 ≡ 6 + length a.content = subst (λ (z : AttributeParts). length s.0 ≡ 6 + length z.content) k (attribute_length x at s.0 s.2) in
        omega (arith, len, one)
    by false h f rest =
        let len : length t ≡ length s.0 + length s.1 = ap length s.4 ∙ length-append s.0 s.1 in
        omega (arith, len, rest f)

attributes_holding : (test : AttributeParts → Bool) (a : AttributeParts) (more xs : List AttributeParts) (at : ℕ) (t : List ℕ) → attributes.spells xs at t → filter test xs ≡ a ∷ more → 8 + length a.content ≤ length t
unfolding attributes
attributes_holding test a more xs at t s e =
    let h = s.1 in
    let len : length t ≡ length h.0 + length h.1 = ap length h.4 ∙ length-append h.0 h.1 in
    let one = holding test a more s.0.0 s.0.1 (at + length h.0) h.1 h.3 (ap (λ (z : List AttributeParts). filter test z) s.2 ∙ e) in
    omega (arith, len, one, h.2.0)

-- ---- members

record MemberText (m : MemberInfo) (t : List ℕ) : Type 0 where
  at : ℕ
  rest : List ℕ
  spelled : attributes.spells m.attributes at rest
  longer : length t ≡ 6 + length rest

member_text : (m : MemberInfo) (at : ℕ) (t : List ℕ) → member.spells m at t → MemberText m t
unfolding member
member_text m at t s =
    let h = s.1.1 in
    let i = h.3 in
    let j = i.3 in
    let one : length t ≡ length h.0 + length h.1 = ap length h.4 ∙ length-append h.0 h.1 in
    let two : length h.1 ≡ length i.0 + length i.1 = ap length i.4 ∙ length-append i.0 i.1 in
    let three : length i.1 ≡ length j.0 + length j.1 = ap length j.4 ∙ length-append j.0 j.1 in
    let made : MemberText (member_of s.0) t = record { at = ((at + length h.0) + length i.0) + length j.0; rest = j.1; spelled = j.3; longer = omega (arith, one, two, three, h.2.0, i.2.0, j.2.0) } in
    subst (λ (z : MemberInfo). MemberText z t) s.2 made

constant_room : Option ℕ → ℕ
constant_room None = 0
constant_room (Some index) = 8

field_length : (names : Names) (flags name desc : ℕ) (constant : Option ℕ) → length (written_member names (record { flags = flags; name = name; desc = desc; constant = constant; code = None })) ≡ 8 + constant_room constant
unfolding written_member constant_room
field_length names flags name desc None = refl
field_length names flags name desc (Some index) = refl

code_room : Option Code → ℕ
code_room None = 0
code_room (Some c) = 6 + length (written_code c)

method_length : (names : Names) (flags name desc : ℕ) (c : Option Code) → length (written_member names (record { flags = flags; name = name; desc = desc; constant = None; code = c })) ≡ 8 + code_room c
unfolding written_member code_room
method_length names flags name desc None = refl
method_length names flags name desc (Some c) = let e = ap length (append-nil (written_code c)) in omega (arith, e)

field_room : (pool : List Item) (m : MemberInfo) (is : Bool) (found : List AttributeParts) (t : List ℕ) → MemberText m t → is_static m.flags ≡ is → filter (is_named pool (codes "ConstantValue")) m.attributes ≡ found
    → ((a : AttributeParts) (more : List AttributeParts) → is_static m.flags ≡ true → filter (is_named pool (codes "ConstantValue")) m.attributes ≡ a ∷ more → length a.content ≡ 2) → 8 + constant_room (cond is (option_map index_in (first found)) None) ≤ length t
unfolding constant_room
field_room pool m false found t x s f two = let l = at_least_two m.attributes x.at x.rest x.spelled in omega (arith, l, x.longer)
field_room pool m true [] t x s f two = let l = at_least_two m.attributes x.at x.rest x.spelled in omega (arith, l, x.longer)
field_room pool m true (a ∷ more) t x s f two =
    let l = attributes_holding (is_named pool (codes "ConstantValue")) a more m.attributes x.at x.rest x.spelled f in
    omega (arith, l, x.longer, two a more s f)

field_shorter : (pool : List Item) (names : Names) (is_interface : Bool) (before : List MemberInfo) (m : MemberInfo) (at : ℕ) (t : List ℕ) → member.spells m at t → MemberFits m → field_rule pool is_interface before m ≡ kept
    → length (written_member names (field_part pool m)) ≤ length t
unfolding field_part
field_shorter pool names is_interface before m at t s fits k =
    let room = field_room pool m (is_static m.flags) (filter (is_named pool (codes "ConstantValue")) m.attributes) t (member_text m at t s) refl refl (λ a more st f. constant_length pool is_interface before m a more fits st f k) in
    let e = field_length names m.flags m.name m.desc (field_part pool m).constant in
    omega (arith, room, e)

-- the code of a method
record CodeShort (c : Option Code) (t : List ℕ) : Type 0 where
  room : 8 + code_room c ≤ length t
  rows : fits_code c ≡ true
  bytes : has_few_bytes c ≡ true

code_short : (pool : List Item) (m : MemberInfo) (found : List AttributeParts) (t : List ℕ) → MemberText m t → filter (is_named pool (codes "Code")) m.attributes ≡ found
    → ((a : AttributeParts) (more : List AttributeParts) → filter (is_named pool (codes "Code")) m.attributes ≡ a ∷ more → (info : CodeInfo) × (code_in a ≡ Some info) × CodeFits info.code a.content) → CodeShort (code_of (first found)) t
unfolding code_room
code_short pool m [] t x f has = let l = at_least_two m.attributes x.at x.rest x.spelled in record { room = omega (arith, l, x.longer); rows = refl; bytes = refl }
code_short pool m (a ∷ more) t x f has =
    let c = has a more f in
    let l = attributes_holding (is_named pool (codes "Code")) a more m.attributes x.at x.rest x.spelled f in
    let made : CodeShort (code_of_info (Some c.0)) t = record { room = omega (arith, l, x.longer, c.2.short); rows = lt-ltb _ _ (omega (arith, c.2.rows)); bytes = le-leb _ _ c.2.bytes } in
    subst (λ (o : Option CodeInfo). CodeShort (code_of_info o) t) (sym c.1) made

has_code : (pool : List Item) (major : ℕ) (is_interface : Bool) (before : List MemberInfo) (m : MemberInfo) → MemberFits m → method_rule pool major is_interface before m ≡ kept
    → (a : AttributeParts) (more : List AttributeParts) → filter (is_named pool (codes "Code")) m.attributes ≡ a ∷ more → (info : CodeInfo) × (code_in a ≡ Some info) × CodeFits info.code a.content
unfolding method_rule
has_code pool major is_interface before m fits k a more f =
    let rule = (method_kept pool major is_interface (is_repeated pool before m) m k).0.attributes in
    let c = first_code pool AttributeFits m.attributes a more fits.attributes f rule in
    (c.1.info, c.1.is, code_fits c.1.info (a.at + 6) a.content c.0.bytes (code_in-sound a c.1.info c.1.is))

method_short : (pool : List Item) (major : ℕ) (is_interface : Bool) (before : List MemberInfo) (m : MemberInfo) (at : ℕ) (t : List ℕ) → member.spells m at t → MemberFits m → method_rule pool major is_interface before m ≡ kept → CodeShort (method_part pool m).code t
unfolding method_part
method_short pool major is_interface before m at t s fits k =
    code_short pool m (filter (is_named pool (codes "Code")) m.attributes) t (member_text m at t s) refl (λ a more f. has_code pool major is_interface before m fits k a more f)

method_shorter : (pool : List Item) (names : Names) (m : MemberInfo) (t : List ℕ) → CodeShort (method_part pool m).code t → length (written_member names (method_part pool m)) ≤ length t
unfolding method_part
method_shorter pool names m t c = let e = method_length names m.flags m.name m.desc (method_part pool m).code in omega (arith, c.room, e)

-- ---- all of them

pub fields_shorter : (pool : List Item) (names : Names) (is_interface : Bool) (before : List MemberInfo) (n : ℕ) (ms : List MemberInfo) (at : ℕ) (t : List ℕ) → spells_times member n ms at t → Each MemberFits ms → each_after before (field_rule pool is_interface) ms ≡ kept
    → length (flat_map (written_member names) (map (field_part pool) ms)) ≤ length t
fields_shorter pool names is_interface before n [] at t s fits k = omega arith
fields_shorter pool names is_interface before zero (m ∷ ms) at t s fits k = absurd (let e = s.0 in cc)
fields_shorter pool names is_interface before (suc n) (m ∷ ms) at t s fits k =
    let r = both (field_rule pool is_interface before m) (each_after (before ++ m ∷ []) (field_rule pool is_interface) ms) tt k in
    let one = field_shorter pool names is_interface before m at s.0 s.2 fits.0 r.0 in
    let more = fields_shorter pool names is_interface (before ++ m ∷ []) n ms (at + length s.0) s.1 s.3 fits.1 r.1 in
    let len : length t ≡ length s.0 + length s.1 = ap length s.4 ∙ length-append s.0 s.1 in
    let all = length-append (written_member names (field_part pool m)) (flat_map (written_member names) (map (field_part pool) ms)) in
    omega (arith, one, more, len, all)

pub record MethodsShort (pool : List Item) (names : Names) (ms : List MemberInfo) (t : List ℕ) : Type 0 where
  pub room : length (flat_map (written_member names) (map (method_part pool) ms)) ≤ length t
  pub rows : list_all (λ (x : Member). fits_code x.code) (map (method_part pool) ms) ≡ true
  pub bytes : list_all (λ (x : Member). has_few_bytes x.code) (map (method_part pool) ms) ≡ true

pub methods_short : (pool : List Item) (names : Names) (major : ℕ) (is_interface : Bool) (before : List MemberInfo) (n : ℕ) (ms : List MemberInfo) (at : ℕ) (t : List ℕ) → spells_times member n ms at t → Each MemberFits ms → each_after before (method_rule pool major is_interface) ms ≡ kept
    → MethodsShort pool names ms t
methods_short pool names major is_interface before n [] at t s fits k = record { room = omega arith; rows = refl; bytes = refl }
methods_short pool names major is_interface before zero (m ∷ ms) at t s fits k = absurd (let e = s.0 in cc)
methods_short pool names major is_interface before (suc n) (m ∷ ms) at t s fits k =
    let r = both (method_rule pool major is_interface before m) (each_after (before ++ m ∷ []) (method_rule pool major is_interface) ms) tt k in
    let one = method_short pool major is_interface before m at s.0 s.2 fits.0 r.0 in
    let shorter = method_shorter pool names m s.0 one in
    let more = methods_short pool names major is_interface (before ++ m ∷ []) n ms (at + length s.0) s.1 s.3 fits.1 r.1 in
    let len : length t ≡ length s.0 + length s.1 = ap length s.4 ∙ length-append s.0 s.1 in
    let all = length-append (written_member names (method_part pool m)) (flat_map (written_member names) (map (method_part pool) ms)) in
    record { room = omega (arith, shorter, more.room, len, all); rows = rw (one.rows, more.rows) refl; bytes = rw (one.bytes, more.bytes) refl }

pub fields_rows : (pool : List Item) (ms : List MemberInfo) → list_all (λ (x : Member). fits_code x.code) (map (field_part pool) ms) ≡ true
unfolding field_part
fields_rows pool [] = refl
fields_rows pool (m ∷ ms) = fields_rows pool ms
