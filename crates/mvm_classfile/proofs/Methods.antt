-- Methods that are built anew of what is kept of them keep the rules, and are the same.
use Rattle.std.proofs.Common.{◌≡◌, ℕ, ◌+◌, ◌<◌, ◌^◌, Bool, true, false, cond, List, [], ◌∷◌, ◌++◌, length, Option, Some, None, refl, sym, ap, subst, ◌∙◌, arith}
use Rattle.std.specs.Prelude.{◌==◌, map, codes}
use Rattle.std.specs.List.{filter, flat_map}
use Rattle.std.proofs.lemmas.Bool.{eqb-true}
use Rattle.mvm_layout.specs.Infos.{AttributeParts}
use Rattle.mvm_layout.specs.Format.{spells_times}
use Rattle.mvm_layout.specs.Layout.{attribute, attributes, member, code, code_in}
use Rattle.mvm_layout.specs.declared.fault.ClassFault.TheVariants.{Shape, Unsupported}
use Rattle.mvm_layout.specs.declared.parts.Item.{Item}
use Rattle.mvm_layout.specs.declared.parts.Code.{Code}
use Rattle.mvm_layout.specs.declared.parts.Member.{Member}
use Rattle.mvm_layout.specs.declared.info.MemberInfo.{MemberInfo}
use Rattle.mvm_layout.specs.declared.info.CodeInfo.{CodeInfo}
use Rattle.mvm_layout.proofs.Layouts.{code_in-sound, code_in-complete}
use Rattle.mvm_layout.specs.Pool.{entry, is_utf8, text, is_text}
use Rattle.mvm_base.specs.Rules.{each, each_after}
use Rattle.mvm_layout.specs.Flags.{has_no_code}
use Rattle.mvm_shape.specs.Members.{is_method_name, holds, method_descriptor, is_named, codes_among, named_attribute, code_attribute, method_attribute, is_repeated, is_sound_method, keeps_interface_flags, keeps_interface_version, tested_method, method_rule, first, code_of_info, code_of, method_part}
use Rattle.mvm_classfile.specs.Writing.{u2, Names, written_attribute, written_code, written_member}
use Rattle.mvm_classfile.proofs.Pieces.{Each, AttributeFits, MemberFits, code_fits, attribute_again, member_again, counted_again}
use Rattle.mvm_classfile.proofs.Plain.{both_hold, not_true}
use Rattle.mvm_classfile.proofs.Named.{text_is_utf8}
use Rattle.mvm_classfile.proofs.Numbers.{code_kept}
use Rattle.mvm_classfile.specs.Kept.{CodeFits}
use Rattle.mvm_classfile.proofs.Rule.{kept, holds_true, holds_again, and_again, both, both_again, method_desc_again, first_found, key, met_again, key_more}
use Rattle.mvm_classfile.proofs.Fields.{Serves}

-- ---- built anew

unfoldable pub code_infos : Names → ℕ → Option Code → List AttributeParts
code_infos names at None = []
code_infos names at (Some c) = record { at = at; name = names.code; content = written_code c } ∷ []

unfoldable pub method_info : Names → ℕ → Member → MemberInfo
method_info names at m = record { at = at; flags = m.flags; name = m.name; desc = m.desc; attributes = code_infos names ((((at + 2) + 2) + 2) + 2) m.code }

-- the code of a method of these flags
pub record IsWritten (pool : List Item) (names : Names) (c : Code) : Type 0 where
  pub named : is_text (codes "Code") (text pool names.code) ≡ true
  pub low : names.code < 256 ^ 2
  pub spelled : (at : ℕ) → code.spells (record { code = c; attributes = [] }) at (written_code c)
  pub short : length (written_code c) < 256 ^ 4
  pub numbers : CodeFits c

abbrev pub CodeSound : List Item → Names → ℕ → Option Code → Type 0
CodeSound pool names flags None = has_no_code flags ≡ true
CodeSound pool names flags (Some c) = (has_no_code flags ≡ false) × IsWritten pool names c

method_spelled_at : (pool : List Item) (names : Names) (at flags name desc : ℕ) (c : Option Code) → flags < 256 ^ 2 → name < 256 ^ 2 → desc < 256 ^ 2 → CodeSound pool names flags c
    → member.spells (method_info names at (record { flags = flags; name = name; desc = desc; constant = None; code = c })) at (written_member names (record { flags = flags; name = name; desc = desc; constant = None; code = c }))
unfolding written_member method_info code_infos attributes
method_spelled_at pool names at flags name desc None f n d c =
    member_again flags name desc at [] (u2 0) f n d (counted_again attribute 0 [] (((at + 2) + 2) + 2) [] (omega arith) (refl, refl))
method_spelled_at pool names at flags name desc (Some x) f n d c =
    let a = attribute_again names.code (written_code x) ((((at + 2) + 2) + 2) + 2) c.1.low c.1.short in
    member_again flags name desc at _ (u2 1 ++ (written_attribute names.code (written_code x) ++ [])) f n d
    (counted_again attribute 1 _ (((at + 2) + 2) + 2) (written_attribute names.code (written_code x) ++ []) (omega arith) (written_attribute names.code (written_code x), [], a, (refl, refl), refl))

-- ---- the rule

pub record MethodKept (pool : List Item) (major : ℕ) (is_interface repeated : Bool) (m : MemberInfo) : Type 0 where
  pub met : repeated ≡ false
  pub flags : keeps_interface_flags pool major is_interface m ≡ true
  pub version : keeps_interface_version pool major is_interface m ≡ true
  pub name : holds is_method_name (text pool m.name) ≡ true
  pub desc : method_descriptor (m.at + 4) m.flags (text pool m.desc) ≡ kept
  pub attributes : each (method_attribute pool) m.attributes ≡ kept

abbrev pub HasCodes : List Item → MemberInfo → Type 0
HasCodes pool m = (length (codes_among pool m.attributes) == cond (has_no_code m.flags) 0 1) ≡ true

pub method_kept : (pool : List Item) (major : ℕ) (is_interface repeated : Bool) (m : MemberInfo) → tested_method pool major is_interface repeated m ≡ kept → MethodKept pool major is_interface repeated m × HasCodes pool m
unfolding tested_method is_sound_method
method_kept pool major is_interface repeated m e =
    let a = both _ _ tt e in
    let b = both _ _ tt a.0 in
    let c = both _ _ tt b.0 in
    let d = both _ _ tt c.0 in
    let g = both _ _ tt d.0 in
    let s = both_hold _ _ (holds_true _ _ g.0) in
    (record { met = not_true _ s.0; flags = holds_true _ _ g.1; version = holds_true _ _ d.1; name = holds_true _ _ c.1; desc = b.1; attributes = a.1 }, s.1)

method_kept_again : (pool : List Item) (major : ℕ) (is_interface repeated : Bool) (m : MemberInfo) → MethodKept pool major is_interface repeated m → HasCodes pool m → tested_method pool major is_interface repeated m ≡ kept
unfolding tested_method is_sound_method
method_kept_again pool major is_interface repeated m k few =
    let s : is_sound_method pool repeated m ≡ true = and_again _ _ (rw k.met refl) few in
    both_again _ _ (both_again _ _ (both_again _ _ (both_again _ _ (both_again _ _ (holds_again _ (Shape m.at) s) (holds_again _ (Shape m.at) k.flags)) (holds_again _ (Unsupported m.at) k.version)) (holds_again _ (Shape (m.at + 2)) k.name)) k.desc) k.attributes

-- ---- the code of a method

-- a Code attribute that keeps its rule is code
pub record IsIn (a : AttributeParts) : Type 0 where
  pub info : CodeInfo
  pub is : code_in a ≡ Some info

is_in : (pool : List Item) (a : AttributeParts) → method_attribute pool a ≡ kept → is_named pool (codes "Code") a ≡ true → IsIn a
unfolding method_attribute
is_in pool a k named =
    let second : cond (is_named pool (codes "Code") a) (code_attribute pool a.at (code_in a)) kept ≡ kept = (both (named_attribute pool a) (cond (is_named pool (codes "Code") a) (code_attribute pool a.at (code_in a)) kept) tt k).1 in
    by (code_in a) refl (rw named at second)
  where
    by : (o : Option CodeInfo) → code_in a ≡ o → code_attribute pool a.at (code_in a) ≡ kept → IsIn a
    by (Some info) e r = record { info = info; is = e }
    by None e r = absurd (let z = rw e at r in cc)

-- the first Code of a method is code
pub first_code : (pool : List Item) (P : AttributeParts → Type 0) (attributes : List AttributeParts) (a : AttributeParts) (more : List AttributeParts) → Each P attributes
    → filter (is_named pool (codes "Code")) attributes ≡ a ∷ more → each (method_attribute pool) attributes ≡ kept → P a × IsIn a
first_code pool P attributes a more p f k =
    let one = first_found P (is_named pool (codes "Code")) (method_attribute pool) attributes more a p k f in
    (one.fits, is_in pool a one.keeps one.passes)

sound_of : (pool : List Item) (names : Names) (a : AttributeParts) (flags : ℕ) → Serves pool (codes "Code") names.code → AttributeFits a → is_named pool (codes "Code") a ≡ true → IsIn a → has_no_code flags ≡ false
    → CodeSound pool names flags (code_of (Some a))
sound_of pool names a flags serves fits named i s =
    let spelled = code_in-sound a i.info i.is in
    let c = code_fits i.info (a.at + 6) a.content fits.bytes spelled in
    let low : names.code < 256 ^ 2 = omega (arith, serves.low a.name named, fits.name) in
    let short : length (written_code i.info.code) < 256 ^ 4 = omega (arith, c.short, fits.short) in
    subst (λ (o : Option CodeInfo). CodeSound pool names flags (code_of_info o)) (sym i.is) (s, record { named = serves.named a.name named; low = low; spelled = c.spelled; short = short; numbers = code_kept i.info (a.at + 6) a.content fits.bytes spelled })

code_sound_at : (pool : List Item) (names : Names) (m : MemberInfo) (is : Bool) (found : List AttributeParts) → Serves pool (codes "Code") names.code → MemberFits m → has_no_code m.flags ≡ is → filter (is_named pool (codes "Code")) m.attributes ≡ found
    → (length found == cond is 0 1) ≡ true → each (method_attribute pool) m.attributes ≡ kept → CodeSound pool names m.flags (code_of (first found))
code_sound_at pool names m true [] serves fits s f n k = s
code_sound_at pool names m false [] serves fits s f n k = absurd cc
code_sound_at pool names m true (a ∷ more) serves fits s f n k = absurd (let e = eqb-true (length (a ∷ more)) 0 n in omega (arith, e))
code_sound_at pool names m false (a ∷ more) serves fits s f n k =
    let one = first_found AttributeFits (is_named pool (codes "Code")) (method_attribute pool) m.attributes more a fits.attributes k f in
    sound_of pool names a m.flags serves one.fits one.passes (is_in pool a one.keeps one.passes) s

pub code_sound : (pool : List Item) (names : Names) (major : ℕ) (is_interface : Bool) (before : List MemberInfo) (m : MemberInfo) → Serves pool (codes "Code") names.code → MemberFits m → method_rule pool major is_interface before m ≡ kept
    → CodeSound pool names m.flags (method_part pool m).code
unfolding method_part method_rule
code_sound pool names major is_interface before m serves fits e =
    let k = method_kept pool major is_interface (is_repeated pool before m) m e in
    code_sound_at pool names m (has_no_code m.flags) _ serves fits refl refl k.1 k.0.attributes

-- ---- the method built anew

code_is_in : (pool : List Item) (names : Names) (at : ℕ) (c : Code) → IsWritten pool names c → code_in (record { at = at; name = names.code; content = written_code c }) ≡ Some (record { code = c; attributes = [] })
code_is_in pool names at c h = code_in-complete (record { at = at; name = names.code; content = written_code c }) (record { code = c; attributes = [] }) (h.spelled (at + 6))

same_at : (pool : List Item) (names : Names) (at flags name desc : ℕ) (c : Option Code) → CodeSound pool names flags c
    → method_part pool (method_info names at (record { flags = flags; name = name; desc = desc; constant = None; code = c })) ≡ record { flags = flags; name = name; desc = desc; constant = None; code = c }
unfolding method_part method_info code_infos
same_at pool names at flags name desc None c = refl
same_at pool names at flags name desc (Some x) c = rw (c.1.named, code_is_in pool names ((((at + 2) + 2) + 2) + 2) x c.1) refl

rule_at : (pool : List Item) (names : Names) (major : ℕ) (is_interface : Bool) (before : List MemberInfo) (at place flags name desc : ℕ) (c : Option Code) (old : List AttributeParts) → CodeSound pool names flags c
    → MethodKept pool major is_interface (is_repeated pool before (record { at = at; flags = flags; name = name; desc = desc; attributes = old })) (record { at = at; flags = flags; name = name; desc = desc; attributes = old })
    → (other : List MemberInfo) → map key before ≡ map key other
    → method_rule pool major is_interface other (method_info names place (record { flags = flags; name = name; desc = desc; constant = None; code = c })) ≡ kept
unfolding method_info code_infos method_attribute named_attribute method_rule
rule_at pool names major is_interface before at place flags name desc None old c k other e =
    let new = method_info names place (record { flags = flags; name = name; desc = desc; constant = None; code = None }) in
    method_kept_again pool major is_interface (is_repeated pool other new) new
    (record { met = sym (met_again pool new before other e) ∙ k.met; flags = k.flags; version = k.version; name = k.name; desc = method_desc_again (at + 4) (place + 4) flags (text pool desc) k.desc; attributes = refl })
    (rw c refl)
rule_at pool names major is_interface before at place flags name desc (Some x) old c k other e =
    let utf8 : is_utf8 (entry pool names.code) ≡ true = text_is_utf8 (codes "Code") (entry pool names.code) c.1.named in
    let new = method_info names place (record { flags = flags; name = name; desc = desc; constant = None; code = Some x }) in
    method_kept_again pool major is_interface (is_repeated pool other new) new
    (record { met = sym (met_again pool new before other e) ∙ k.met; flags = k.flags; version = k.version; name = k.name; desc = method_desc_again (at + 4) (place + 4) flags (text pool desc) k.desc; attributes = rw (utf8, c.1.named, code_is_in pool names ((((place + 2) + 2) + 2) + 2) x c.1) refl })
    (rw (c.1.named, c.0) refl)

-- ---- all of them

pub method_spelled : (pool : List Item) (names : Names) (at : ℕ) (m : MemberInfo) → MemberFits m → CodeSound pool names m.flags (method_part pool m).code
    → member.spells (method_info names at (method_part pool m)) at (written_member names (method_part pool m))
unfolding method_part
method_spelled pool names at m fits c = method_spelled_at pool names at m.flags m.name m.desc (method_part pool m).code fits.flags fits.name fits.desc c

pub method_same : (pool : List Item) (names : Names) (at : ℕ) (m : MemberInfo) → CodeSound pool names m.flags (method_part pool m).code
    → method_part pool (method_info names at (method_part pool m)) ≡ method_part pool m
unfolding method_part
method_same pool names at m c = same_at pool names at m.flags m.name m.desc (method_part pool m).code c

pub method_rule_again : (pool : List Item) (names : Names) (major : ℕ) (is_interface : Bool) (before other : List MemberInfo) (at : ℕ) (m : MemberInfo) → CodeSound pool names m.flags (method_part pool m).code
    → method_rule pool major is_interface before m ≡ kept → map key before ≡ map key other → method_rule pool major is_interface other (method_info names at (method_part pool m)) ≡ kept
unfolding method_part method_rule
method_rule_again pool names major is_interface before other at m c k e =
    rule_at pool names major is_interface before m.at at m.flags m.name m.desc (method_part pool m).code m.attributes c (method_kept pool major is_interface (is_repeated pool before m) m k).0 other e

key_same : (names : Names) (at : ℕ) (pool : List Item) (m : MemberInfo) → key m ≡ key (method_info names at (method_part pool m))
unfolding method_part method_info
key_same names at pool m = refl

-- what is built anew of methods that keep their rule
pub record MethodsAgain (pool : List Item) (names : Names) (major : ℕ) (is_interface : Bool) (other : List MemberInfo) (at : ℕ) (ms : List Member) : Type 0 where
  pub infos : List MemberInfo
  pub spelled : spells_times member (length ms) infos at (flat_map (written_member names) ms)
  pub rules : each_after other (method_rule pool major is_interface) infos ≡ kept
  pub same : map (method_part pool) infos ≡ ms

pub methods_again : (pool : List Item) (names : Names) (major : ℕ) (is_interface : Bool) → Serves pool (codes "Code") names.code → (before other : List MemberInfo) (at : ℕ) (ms : List MemberInfo) → Each MemberFits ms
    → each_after before (method_rule pool major is_interface) ms ≡ kept → map key before ≡ map key other → MethodsAgain pool names major is_interface other at (map (method_part pool) ms)
methods_again pool names major is_interface serves before other at [] fits k e = record { infos = []; spelled = (refl, refl); rules = refl; same = refl }
methods_again pool names major is_interface serves before other at (m ∷ ms) fits k e =
    let r = both (method_rule pool major is_interface before m) (each_after (before ++ m ∷ []) (method_rule pool major is_interface) ms) tt k in
    let p = method_part pool m in
    let c = code_sound pool names major is_interface before m serves fits.0 r.0 in
    let new = method_info names at p in
    let more = methods_again pool names major is_interface serves (before ++ m ∷ []) (other ++ new ∷ []) (at + length (written_member names p)) ms fits.1 r.1 (key_more m new before other (key_same names at pool m) e) in
    record {
      infos = new ∷ more.infos;
      spelled = (written_member names p, flat_map (written_member names) (map (method_part pool) ms), method_spelled pool names at m fits.0 c, more.spelled, refl);
      rules = both_again _ _ (method_rule_again pool names major is_interface before other at m c r.0 e) more.rules;
      same = ap (λ (x : Member). x ∷ map (method_part pool) more.infos) (method_same pool names at m c) ∙ ap (λ (xs : List Member). p ∷ xs) more.same;
    }
