-- Fields that are built anew of what is kept of them keep the rules, and are the same.
use Rattle.std.proofs.Common.{◌≡◌, ℕ, ◌+◌, ◌<◌, ◌≤◌, ◌^◌, Bool, true, false, cond, not, List, [], ◌∷◌, ◌++◌, length, Option, Some, None, refl, sym, ap, subst, ◌∙◌, arith}
use Rattle.std.specs.Prelude.{nat_le, ◌&&◌, ◌||◌, ◌==◌, map, codes}
use Rattle.std.specs.List.{filter, flat_map}
use Rattle.std.specs.Option.{option_map}
use Rattle.std.proofs.lemmas.Bool.{eqb-true}
use Rattle.mvm_base.specs.Endian.{big_number}
use Rattle.mvm_layout.specs.Infos.{AttributeParts}
use Rattle.mvm_layout.specs.Format.{spells_times}
use Rattle.mvm_layout.specs.Layout.{attribute, attributes, member}
use Rattle.mvm_layout.specs.declared.fault.ClassFault.TheVariants.{Shape}
use Rattle.mvm_layout.specs.declared.parts.Item.{Item}
use Rattle.mvm_layout.specs.declared.parts.Member.{Member}
use Rattle.mvm_layout.specs.declared.info.MemberInfo.{MemberInfo}
use Rattle.mvm_layout.specs.Pool.{entry, is_utf8, text, is_text}
use Rattle.mvm_base.specs.Rules.{each, each_after}
use Rattle.mvm_layout.specs.Flags.{is_static}
use Rattle.mvm_shape.specs.Members.{is_unqualified, holds, field_descriptor, is_named, constants_among, is_constant_value, field_attribute, is_repeated, is_sound_field, tested_field, field_rule, first, index_in, field_part}
use Rattle.mvm_classfile.specs.Writing.{u2, Names, written_attribute, written_member}
use Rattle.mvm_classfile.proofs.Plain.{both_hold, not_true, plain_u2, number_again, number_lt}
use Rattle.mvm_classfile.proofs.Pieces.{Each, AttributeFits, MemberFits, attribute_again, member_again, counted_again}
use Rattle.mvm_classfile.proofs.Named.{text_is_utf8}
use Rattle.mvm_classfile.proofs.Rule.{kept, holds_true, holds_again, and_again, both, both_again, field_desc_again, first_found, key, met_again, key_more}

-- the index that the names have names this text, and is no higher than any that does
pub record Serves (pool : List Item) (wanted : List ℕ) (index : ℕ) : Type 0 where
  pub named : (other : ℕ) → is_text wanted (text pool other) ≡ true → is_text wanted (text pool index) ≡ true
  pub low : (other : ℕ) → is_text wanted (text pool other) ≡ true → index ≤ other

-- ---- built anew

unfoldable pub constant_infos : Names → ℕ → Option ℕ → List AttributeParts
constant_infos names at None = []
constant_infos names at (Some index) = record { at = at; name = names.constant; content = u2 index } ∷ []

unfoldable pub field_info : Names → ℕ → Member → MemberInfo
field_info names at m = record { at = at; flags = m.flags; name = m.name; desc = m.desc; attributes = constant_infos names ((((at + 2) + 2) + 2) + 2) m.constant }

-- a value that a field of these flags and this descriptor may have
abbrev pub ConstantSound : List Item → Names → ℕ → ℕ → Option ℕ → Type 0
ConstantSound pool names flags desc None = Unit {0}
ConstantSound pool names flags desc (Some index) =
    (is_static flags ≡ true) × (is_text (codes "ConstantValue") (text pool names.constant) ≡ true) × (names.constant < 256 ^ 2) × (is_constant_value pool desc (u2 index) ≡ true) × (index < 256 ^ 2)

field_spelled_at : (pool : List Item) (names : Names) (at flags name desc : ℕ) (constant : Option ℕ) → flags < 256 ^ 2 → name < 256 ^ 2 → desc < 256 ^ 2 → ConstantSound pool names flags desc constant
    → member.spells (field_info names at (record { flags = flags; name = name; desc = desc; constant = constant; code = None })) at (written_member names (record { flags = flags; name = name; desc = desc; constant = constant; code = None }))
unfolding written_member field_info constant_infos attributes
field_spelled_at pool names at flags name desc None f n d c =
    member_again flags name desc at [] (u2 0) f n d (counted_again attribute 0 [] (((at + 2) + 2) + 2) [] (omega arith) (refl, refl))
field_spelled_at pool names at flags name desc (Some index) f n d c =
    let a = attribute_again names.constant (u2 index) ((((at + 2) + 2) + 2) + 2) c.2 (omega arith) in
    member_again flags name desc at _ (u2 1 ++ (written_attribute names.constant (u2 index) ++ [])) f n d
    (counted_again attribute 1 _ (((at + 2) + 2) + 2) (written_attribute names.constant (u2 index) ++ []) (omega arith) (written_attribute names.constant (u2 index), [], a, (refl, refl), refl))

-- ---- the rule

pub record FieldKept (pool : List Item) (is_interface repeated : Bool) (m : MemberInfo) : Type 0 where
  pub met : repeated ≡ false
  pub is_sound : (not is_interface || is_static m.flags) ≡ true
  pub name : holds is_unqualified (text pool m.name) ≡ true
  pub desc : field_descriptor (m.at + 4) (text pool m.desc) ≡ kept
  pub attributes : each (field_attribute pool m) m.attributes ≡ kept

pub field_kept : (pool : List Item) (is_interface repeated : Bool) (m : MemberInfo) → tested_field pool is_interface repeated m ≡ kept → FieldKept pool is_interface repeated m
unfolding tested_field is_sound_field
field_kept pool is_interface repeated m e =
    let a = both _ _ tt e in
    let b = both _ _ tt a.0 in
    let c = both _ _ tt b.0 in
    let s = both_hold _ _ (holds_true _ _ c.0) in
    let r = both_hold _ _ s.0 in
    record { met = not_true _ r.0; is_sound = s.1; name = holds_true _ _ c.1; desc = b.1; attributes = a.1 }

field_kept_again : (pool : List Item) (is_interface repeated : Bool) (m : MemberInfo) → FieldKept pool is_interface repeated m → nat_le (length (constants_among pool m.attributes)) 1 ≡ true → tested_field pool is_interface repeated m ≡ kept
unfolding tested_field is_sound_field
field_kept_again pool is_interface repeated m k few =
    let s : is_sound_field pool is_interface repeated m ≡ true = and_again _ _ (and_again _ _ (rw k.met refl) few) k.is_sound in
    both_again _ _ (both_again _ _ (both_again _ _ (holds_again _ (Shape m.at) s) (holds_again _ (Shape (m.at + 2)) k.name)) k.desc) k.attributes

-- ---- the value of a field

two_bytes : (content : List ℕ) → (length content == 2) ≡ true → length content ≡ 2
two_bytes content e = eqb-true _ _ e

value_is : (a b c : Bool) → (a && (not (b && true) || c)) ≡ true → b ≡ true → c ≡ true
value_is true true c h e = h
value_is true false c h e = absurd cc
value_is false b c h e = absurd cc

constant_value : (pool : List Item) (m : MemberInfo) (a : AttributeParts) (more : List AttributeParts) → MemberFits m → is_static m.flags ≡ true → filter (is_named pool (codes "ConstantValue")) m.attributes ≡ a ∷ more
    → each (field_attribute pool m) m.attributes ≡ kept → is_constant_value pool m.desc a.content ≡ true
unfolding field_attribute
constant_value pool m a more fits s f k =
    let one = first_found AttributeFits (is_named pool (codes "ConstantValue")) (field_attribute pool m) m.attributes more a fits.attributes k f in
    let rule = holds_true _ _ one.keeps in
    value_is (is_utf8 (entry pool a.name)) (is_named pool (codes "ConstantValue") a) (is_constant_value pool m.desc a.content) (rw s at rule) one.passes

-- the first ConstantValue of a static field has two bytes
pub constant_length : (pool : List Item) (is_interface : Bool) (before : List MemberInfo) (m : MemberInfo) (a : AttributeParts) (more : List AttributeParts) → MemberFits m → is_static m.flags ≡ true
    → filter (is_named pool (codes "ConstantValue")) m.attributes ≡ a ∷ more → field_rule pool is_interface before m ≡ kept → length a.content ≡ 2
unfolding field_rule
constant_length pool is_interface before m a more fits s f k =
    two_bytes a.content (both_hold _ _ (constant_value pool m a more fits s f (field_kept pool is_interface (is_repeated pool before m) m k).attributes)).0

constant_sound_at : (pool : List Item) (names : Names) (m : MemberInfo) (is : Bool) (found : List AttributeParts) → Serves pool (codes "ConstantValue") names.constant → MemberFits m → is_static m.flags ≡ is → filter (is_named pool (codes "ConstantValue")) m.attributes ≡ found
    → each (field_attribute pool m) m.attributes ≡ kept → ConstantSound pool names m.flags m.desc (cond is (option_map index_in (first found)) None)
constant_sound_at pool names m false found serves fits s f k = tt
constant_sound_at pool names m true [] serves fits s f k = tt
constant_sound_at pool names m true (a ∷ more) serves fits s f k =
    let one = first_found AttributeFits (is_named pool (codes "ConstantValue")) (field_attribute pool m) m.attributes more a fits.attributes k f in
    let value = constant_value pool m a more fits s f k in
    let two : length a.content ≡ 2 = two_bytes a.content (both_hold _ _ value).0 in
    let n : a.content ≡ u2 (big_number 2 a.content) = plain_u2.written (big_number 2 a.content) 0 a.content one.fits.bytes (two, refl) in
    let low : names.constant < 256 ^ 2 = omega (arith, serves.low a.name one.passes, one.fits.name) in
    (s, serves.named a.name one.passes, low, subst (λ (z : List ℕ). is_constant_value pool m.desc z ≡ true) n value, number_lt 2 (big_number 2 a.content) 0 a.content one.fits.bytes (two, refl))

pub constant_sound : (pool : List Item) (names : Names) (is_interface : Bool) (before : List MemberInfo) (m : MemberInfo) → Serves pool (codes "ConstantValue") names.constant → MemberFits m → field_rule pool is_interface before m ≡ kept
    → ConstantSound pool names m.flags m.desc (field_part pool m).constant
unfolding field_part field_rule
constant_sound pool names is_interface before m serves fits e = constant_sound_at pool names m (is_static m.flags) _ serves fits refl refl (field_kept pool is_interface (is_repeated pool before m) m e).attributes

-- ---- the field built anew

cond_none : (b : Bool) → cond b (option_map index_in None) None ≡ None
cond_none true = refl
cond_none false = refl

same_at : (pool : List Item) (names : Names) (at flags name desc : ℕ) (constant : Option ℕ) → ConstantSound pool names flags desc constant
    → field_part pool (field_info names at (record { flags = flags; name = name; desc = desc; constant = constant; code = None })) ≡ record { flags = flags; name = name; desc = desc; constant = constant; code = None }
unfolding field_part field_info constant_infos
same_at pool names at flags name desc None c = ap (λ (o : Option ℕ). record { flags = flags; name = name; desc = desc; constant = o; code = None }) (cond_none (is_static flags))
same_at pool names at flags name desc (Some index) c =
    let n : big_number 2 (u2 index) ≡ index = (number_again 2 index 0 c.4).1 in
    rw (c.0, c.1) (ap (λ (i : ℕ). record { flags = flags; name = name; desc = desc; constant = Some i; code = None }) n)

rule_at : (pool : List Item) (names : Names) (is_interface : Bool) (before : List MemberInfo) (at place flags name desc : ℕ) (constant : Option ℕ) (old : List AttributeParts) → ConstantSound pool names flags desc constant
    → FieldKept pool is_interface (is_repeated pool before (record { at = at; flags = flags; name = name; desc = desc; attributes = old })) (record { at = at; flags = flags; name = name; desc = desc; attributes = old })
    → (other : List MemberInfo) → map key before ≡ map key other
    → field_rule pool is_interface other (field_info names place (record { flags = flags; name = name; desc = desc; constant = constant; code = None })) ≡ kept
unfolding field_info constant_infos field_attribute field_rule
rule_at pool names is_interface before at place flags name desc None old c k other e =
    let new = field_info names place (record { flags = flags; name = name; desc = desc; constant = None; code = None }) in
    field_kept_again pool is_interface (is_repeated pool other new) new
    (record { met = sym (met_again pool new before other e) ∙ k.met; is_sound = k.is_sound; name = k.name; desc = field_desc_again (at + 4) (place + 4) (text pool desc) k.desc; attributes = refl })
    refl
rule_at pool names is_interface before at place flags name desc (Some index) old c k other e =
    let utf8 : is_utf8 (entry pool names.constant) ≡ true = text_is_utf8 (codes "ConstantValue") (entry pool names.constant) c.1 in
    let new = field_info names place (record { flags = flags; name = name; desc = desc; constant = Some index; code = None }) in
    field_kept_again pool is_interface (is_repeated pool other new) new
    (record { met = sym (met_again pool new before other e) ∙ k.met; is_sound = k.is_sound; name = k.name; desc = field_desc_again (at + 4) (place + 4) (text pool desc) k.desc; attributes = rw (utf8, c.1, c.0, c.3) refl })
    (rw c.1 refl)

-- ---- all of them

pub field_spelled : (pool : List Item) (names : Names) (at : ℕ) (m : MemberInfo) → MemberFits m → ConstantSound pool names m.flags m.desc (field_part pool m).constant
    → member.spells (field_info names at (field_part pool m)) at (written_member names (field_part pool m))
unfolding field_part
field_spelled pool names at m fits c = field_spelled_at pool names at m.flags m.name m.desc (field_part pool m).constant fits.flags fits.name fits.desc c

pub field_same : (pool : List Item) (names : Names) (at : ℕ) (m : MemberInfo) → ConstantSound pool names m.flags m.desc (field_part pool m).constant
    → field_part pool (field_info names at (field_part pool m)) ≡ field_part pool m
unfolding field_part
field_same pool names at m c = same_at pool names at m.flags m.name m.desc (field_part pool m).constant c

pub field_rule_again : (pool : List Item) (names : Names) (is_interface : Bool) (before other : List MemberInfo) (at : ℕ) (m : MemberInfo) → ConstantSound pool names m.flags m.desc (field_part pool m).constant
    → field_rule pool is_interface before m ≡ kept → map key before ≡ map key other → field_rule pool is_interface other (field_info names at (field_part pool m)) ≡ kept
unfolding field_part field_rule
field_rule_again pool names is_interface before other at m c k e =
    rule_at pool names is_interface before m.at at m.flags m.name m.desc (field_part pool m).constant m.attributes c (field_kept pool is_interface (is_repeated pool before m) m k) other e

key_same : (names : Names) (at : ℕ) (pool : List Item) (m : MemberInfo) → key m ≡ key (field_info names at (field_part pool m))
unfolding field_part field_info
key_same names at pool m = refl

-- what is built anew of fields that keep their rule
pub record FieldsAgain (pool : List Item) (names : Names) (is_interface : Bool) (other : List MemberInfo) (at : ℕ) (ms : List Member) : Type 0 where
  pub infos : List MemberInfo
  pub spelled : spells_times member (length ms) infos at (flat_map (written_member names) ms)
  pub rules : each_after other (field_rule pool is_interface) infos ≡ kept
  pub same : map (field_part pool) infos ≡ ms

pub fields_again : (pool : List Item) (names : Names) (is_interface : Bool) → Serves pool (codes "ConstantValue") names.constant → (before other : List MemberInfo) (at : ℕ) (ms : List MemberInfo) → Each MemberFits ms
    → each_after before (field_rule pool is_interface) ms ≡ kept → map key before ≡ map key other → FieldsAgain pool names is_interface other at (map (field_part pool) ms)
fields_again pool names is_interface serves before other at [] fits k e = record { infos = []; spelled = (refl, refl); rules = refl; same = refl }
fields_again pool names is_interface serves before other at (m ∷ ms) fits k e =
    let r = both (field_rule pool is_interface before m) (each_after (before ++ m ∷ []) (field_rule pool is_interface) ms) tt k in
    let p = field_part pool m in
    let c = constant_sound pool names is_interface before m serves fits.0 r.0 in
    let new = field_info names at p in
    let more = fields_again pool names is_interface serves (before ++ m ∷ []) (other ++ new ∷ []) (at + length (written_member names p)) ms fits.1 r.1 (key_more m new before other (key_same names at pool m) e) in
    record {
      infos = new ∷ more.infos;
      spelled = (written_member names p, flat_map (written_member names) (map (field_part pool) ms), field_spelled pool names at m fits.0 c, more.spelled, refl);
      rules = both_again _ _ (field_rule_again pool names is_interface before other at m c r.0 e) more.rules;
      same = ap (λ (x : Member). x ∷ map (field_part pool) more.infos) (field_same pool names at m c) ∙ ap (λ (xs : List Member). p ∷ xs) more.same;
    }
