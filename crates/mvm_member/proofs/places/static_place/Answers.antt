use Rattle.std.proofs.Common.{◌≡◌, List, subst}
use Rattle.mvm_classfile.specs.Kept.{AreApart}
use Rattle.mvm_layout.specs.declared.parts.Member.{Member}
use Rattle.mvm_set.specs.Members.{field_at}
use Rattle.mvm_mirror.specs.Statics.{slot_of}
use Rattle.mvm_member.specs.Slots.{slot_found}
use Rattle.mvm_member.proofs.Slots.{slot_is}
use Rattle.mvm_member.proofs.places.static_place.Goals as goal

pub returns-in-Some : goal.returns-in-Some
returns-in-Some c =
    let file = c.args.class.now.file in
    let apart : AreApart file.pool file.fields = subst (λ (fields : List Member). AreApart file.pool fields) c.fields_of-fields.ensures.value c.fields_of-fields.ensures.apart in
    let is : slot_found file.fields (field_at c.args.name.now c.args.desc.now file) ≡ slot_of c.args.name.now c.args.desc.now file = slot_is c.args.name.now c.args.desc.now file apart in
    cc

pub returns-in-None : goal.returns-in-None
returns-in-None c =
    let file = c.args.class.now.file in
    let apart : AreApart file.pool file.fields = subst (λ (fields : List Member). AreApart file.pool fields) c.fields_of-fields.ensures.value c.fields_of-fields.ensures.apart in
    let is : slot_found file.fields (field_at c.args.name.now c.args.desc.now file) ≡ slot_of c.args.name.now c.args.desc.now file = slot_is c.args.name.now c.args.desc.now file apart in
    cc
