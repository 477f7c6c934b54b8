use Rattle.std.proofs.Common.{◌≡◌, List, take, subst, arith}
use Rattle.std.specs.List.{All}
use Rattle.std.proofs.lemmas.Grind.{common_steps}
use Rattle.mvm_layout.specs.declared.parts.Member.{Member}
use Rattle.mvm_set.specs.Index.{HasNumbers}
use Rattle.mvm_set.specs.Set.{look}
use Rattle.mvm_set.proofs.Numbered.{have_more}
use Rattle.mvm_set.proofs.index.add_texts.Goals as goal

pub loop-i-preserved : goal.loop-i-preserved
loop-i-preserved c =
    let one = c.in_ok-add_text.ensures in
    let other = c.in_ok-add_text-2.ensures in
    let so_far = c.loop-i.invariant in
    record {
      numbers = λ h. other.numbers (one.numbers (so_far.numbers h));
      kept = λ name h. other.kept name (one.kept name (so_far.kept name h));
      have =
          have_more c.args.pool.now (look c.loop-i.texts (λ key. key.items)) (look c.add_text.new.texts (λ key. key.items)) (look c.add_text-in-loop-i.new.texts (λ key. key.items)) c.args.members.now c.loop-i.i c.index-members-i.result
          (omega (arith, c.loop-i-test.true)) c.index-members-i.is so_far.have one.kept other.kept one.has other.has;
    }

pub returns-clause-have : goal.returns-clause-have
returns-clause-have c =
    let e : take c.loop-i.i c.args.members.now ≡ c.args.members.now = grind (arith, common_steps) in
    subst (λ (members : List Member). All (HasNumbers c.args.pool.now (look c.loop-i.texts (λ key. key.items))) members) e c.loop-i.invariant.have
