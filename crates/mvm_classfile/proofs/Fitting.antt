-- The numbers of the parts of a class file fit their fields, by the bytes that spell them.
use Rattle.std.proofs.Common.{◌≡◌, ℕ, ◌+◌, ◌<◌, ◌^◌, Bool, false, List, [], length, Option, Some, None, sym, subst, arith}
use Rattle.mvm_base.proofs.Bytes.{left_bytes, right_bytes}
use Rattle.mvm_base.specs.Bytes.{AreBytes}
use Rattle.std.specs.Prelude.{All, IfSome, codes, nat_le, ◌&&◌}
use Rattle.mvm_layout.specs.Flags.{is_interface}
use Rattle.mvm_layout.specs.Format.{number}
use Rattle.mvm_layout.specs.Layout.{interfaces, major, body, Body, info_of, layout}
use Rattle.mvm_layout.specs.declared.fault.ClassFault.TheVariants.{Version}
use Rattle.mvm_layout.specs.declared.info.ClassInfo.{ClassInfo}
use Rattle.mvm_layout.specs.declared.info.MemberInfo.{MemberInfo}
use Rattle.mvm_layout.specs.declared.parts.Code.{Code}
use Rattle.mvm_layout.specs.declared.parts.Item.{Item}
use Rattle.mvm_layout.specs.declared.parts.Parts.{Parts}
use Rattle.mvm_shape.specs.Members.{field_rule, method_rule, field_part, method_part}
use Rattle.mvm_shape.specs.Shape.{parts_of}
use Rattle.mvm_classfile.specs.Kept.{IsU2, PoolFits, CodeFits, HasText, MemberFits, NumbersFit}
use Rattle.mvm_classfile.specs.Reading.{IsClassFile}
use Rattle.mvm_classfile.specs.Writing.{names_in}
use Rattle.mvm_classfile.proofs.Fields.{ConstantSound, constant_sound}
use Rattle.mvm_classfile.proofs.Items.{pool_short}
use Rattle.mvm_classfile.proofs.Kept.{members_kept}
use Rattle.mvm_classfile.proofs.Methods.{CodeSound, code_sound}
use Rattle.mvm_classfile.proofs.Numbers.{Keeps, keeps_u2, keeps_passing, keeps_counted, pool_kept}
use Rattle.mvm_classfile.proofs.Pieces.{MemberFits as Spelled}
use Rattle.mvm_classfile.proofs.Rule.{kept}
use Rattle.mvm_classfile.proofs.Whole.{InfoFits, info_fits, serves_constant, serves_code, RulesKept, rules_kept}

-- ---- members

constant_fits : (pool : List Item) (flags desc : ℕ) (constant : Option ℕ) → ConstantSound pool (names_in pool) flags desc constant
    → IfSome constant (λ index. IsU2 index × HasText pool (codes "ConstantValue"))
constant_fits pool flags desc None c = tt
constant_fits pool flags desc (Some index) c = (c.4, ((names_in pool).constant, c.1))

field_fits : (pool : List Item) (is : Bool) (before : List MemberInfo) (m : MemberInfo) → Spelled m → field_rule pool is before m ≡ kept → MemberFits pool (field_part pool m)
unfolding field_part
field_fits pool is before m fits e = record {
  flags = fits.flags;
  name = fits.name;
  desc = fits.desc;
  constant = constant_fits pool m.flags m.desc _ (constant_sound pool (names_in pool) is before m (serves_constant pool) fits e);
  code = tt;
}

code_fits : (pool : List Item) (flags : ℕ) (code : Option Code) → CodeSound pool (names_in pool) flags code → IfSome code (λ code. CodeFits code × HasText pool (codes "Code"))
code_fits pool flags None c = tt
code_fits pool flags (Some code) c = (c.1.numbers, ((names_in pool).code, c.1.named))

method_fits : (pool : List Item) (version : ℕ) (is : Bool) (before : List MemberInfo) (m : MemberInfo) → Spelled m → method_rule pool version is before m ≡ kept → MemberFits pool (method_part pool m)
unfolding method_part
method_fits pool version is before m fits e = record {
  flags = fits.flags;
  name = fits.name;
  desc = fits.desc;
  constant = tt;
  code = code_fits pool m.flags _ (code_sound pool (names_in pool) version is before m (serves_code pool) fits e);
}

-- ---- the whole

keeps_interfaces : Keeps interfaces (All IsU2)
unfolding interfaces
keeps_interfaces = keeps_counted (number 2) IsU2 keeps_u2

keeps_major : Keeps major IsU2
unfolding major
keeps_major = keeps_passing (λ n. nat_le 45 n && nat_le n 52) Version (number 2) IsU2 keeps_u2

-- what stands before the members
record HeaderFits (info : ClassInfo) : Type 0 where
  major : IsU2 info.major
  count : length info.pool + 1 < 256 ^ 2
  pool : PoolFits false info.pool
  interfaces : All IsU2 info.interfaces

body_interfaces : (x : Body) (at : ℕ) (t : List ℕ) → AreBytes t → body.spells x at t → All IsU2 x.1.1.1.0
unfolding body
body_interfaces x at t b h =
    let b1 = right_bytes t h.0 h.1 h.4 b in
    let i = h.3 in
    let b2 = right_bytes h.1 i.0 i.1 i.4 b1 in
    let j = i.3 in
    let b3 = right_bytes i.1 j.0 j.1 j.4 b2 in
    let k = j.3 in
    keeps_interfaces.of x.1.1.1.0 (((at + length h.0) + length i.0) + length j.0) k.0 (left_bytes j.1 k.0 k.1 k.4 b3) k.2

header_fits : (info : ClassInfo) (at : ℕ) (t : List ℕ) → AreBytes t → layout.spells info at t → HeaderFits info
unfolding layout
header_fits info at t b s =
    let x = s.0 in
    let h = s.1 in
    let b1 = right_bytes t h.0 h.1 h.4 b in
    let i = h.3 in
    let b2 = right_bytes h.1 i.0 i.1 i.4 b1 in
    let j = i.3 in
    let b3 = right_bytes i.1 j.0 j.1 j.4 b2 in
    let k = j.3 in
    let b4 = right_bytes j.1 k.0 k.1 k.4 b3 in
    let here = left_bytes j.1 k.0 k.1 k.4 b3 in
    let made : HeaderFits (info_of x) = record {
      major = keeps_major.of x.1.1.0 ((at + length h.0) + length i.0) j.0 (left_bytes i.1 j.0 j.1 j.4 b2) j.2;
      count = (pool_short x.1.1.1.0 (((at + length h.0) + length i.0) + length j.0) k.0 here k.2).count;
      pool = pool_kept x.1.1.1.0 (((at + length h.0) + length i.0) + length j.0) k.0 here k.2;
      interfaces = body_interfaces x.1.1.1.1 ((((at + length h.0) + length i.0) + length j.0) + length k.0) k.1 b4 k.3;
    } in
    subst HeaderFits s.2 made

info_numbers : (info : ClassInfo) → HeaderFits info → InfoFits info → RulesKept info → NumbersFit (parts_of info)
unfolding parts_of
info_numbers info header fits k = record {
  minor = fits.minor;
  major = header.major;
  count = omega (arith, header.count);
  pool = header.pool;
  flags = fits.flags;
  this_class = fits.this_class;
  super_class = fits.super_class;
  interfaces = header.interfaces;
  fields = members_kept (MemberFits info.pool) (field_part info.pool) (field_rule info.pool (is_interface info.flags)) (λ before m. field_fits info.pool (is_interface info.flags) before m) [] info.fields fits.fields k.fields;
  methods = members_kept (MemberFits info.pool) (method_part info.pool) (method_rule info.pool info.major (is_interface info.flags)) (λ before m. method_fits info.pool info.major (is_interface info.flags) before m) [] info.methods fits.methods k.methods;
}

pub numbers_fit : (parts : Parts) → IsClassFile parts → NumbersFit parts
numbers_fit parts is =
    let r = is.reads in
    subst NumbersFit (sym r.parts_are) (info_numbers r.info (header_fits r.info 0 is.text is.bytes r.spelled) (info_fits r.info 0 is.text is.bytes r.spelled) (rules_kept r.info r.kept))
