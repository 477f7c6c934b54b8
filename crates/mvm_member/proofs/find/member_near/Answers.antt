use Rattle.std.proofs.Common.{◌≡◌, Some, slice_get, true, sym, ◌∙◌, arith}
use Rattle.std.proofs.lemmas.Grind.{common_steps}
use Rattle.std.proofs.lemmas.Option.{gets}
use Rattle.mvm_set.specs.Members.{is_member}
use Rattle.mvm_member.proofs.Apart.{first_here}
use Rattle.mvm_member.proofs.find.member_near.Goals as goal

pub returns-then-is_member : goal.returns-then-is_member
returns-then-is_member c =
    let stands : slice_get c.args.members.now c.in-Some.index ≡ Some c.in-Some-get.member.now = grind (arith, common_steps, gets) in
    let is : is_member c.args.pool.now c.args.name.now c.args.desc.now c.in-Some-get.member.now ≡ true = sym c.is_member.ensures ∙ c.if-is_member.true in
    sym (first_here c.args.pool.now c.args.name.now c.args.desc.now c.args.members.now c.in-Some.index c.in-Some-get.member.now c.requires.apart stands is)
