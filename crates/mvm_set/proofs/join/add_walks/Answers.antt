use Rattle.std.proofs.Common.{◌≡◌, ◌+◌, ◌∷◌, ◌++◌, List, drop, sym, ap, subst, ◌∙◌, append_assoc, arith}
use Rattle.std.specs.List.{All}
use Rattle.std.proofs.lemmas.Grind.{common_steps}
use Rattle.std.proofs.lemmas.List.Elements.{All-push}
use Rattle.mvm_set.specs.ClassOf.{own_walk_name}
use Rattle.mvm_set.specs.Once.{once}
use Rattle.mvm_set.specs.Over.{walks_of}
use Rattle.mvm_set.specs.Seen.{joined, IsOnce}
use Rattle.mvm_set.specs.declared.class.Lineage.{Lineage}
use Rattle.mvm_set.specs.declared.own.OwnWalk.{OwnWalk}
use Rattle.mvm_set.proofs.Single.{more_lists}
use Rattle.mvm_set.proofs.join.add_walks.Goals as goal

pub loop-i-preserved : goal.loop-i-preserved
loop-i-preserved c =
    let class = c.index-classes-i.result in
    let lists = c.loop-i.lists.items in
    let behind = drop (c.loop-i.i + 1) c.args.classes.now in
    let e : drop c.loop-i.i c.args.classes.now ≡ class ∷ behind = grind (arith, common_steps) in
    let list : c.walk.result.now ≡ class.walk = c.walk.ensures.value ∙ ap (λ (one : Lineage). one.walk) c.get.ensures in
    let one : once own_walk_name c.walk.result.now ≡ c.walk.result.now =
    subst (λ (owns : List OwnWalk). once own_walk_name owns ≡ owns) (sym c.walk.ensures.value) c.walk.ensures.once in
    record {
      joined =
          ap (λ (owns : List OwnWalk). owns ++ walks_of behind) (more_lists lists c.push.new.self.items c.walk.result c.in_ok-push.ensures.items)
          ∙ ap (λ (owns : List OwnWalk). (joined lists ++ owns) ++ walks_of behind) list
          ∙ append_assoc (joined lists) class.walk (walks_of behind)
          ∙ ap (λ (classes : List Lineage). joined lists ++ walks_of classes) (sym e)
          ∙ c.loop-i.invariant.joined;
      once = λ old. subst (All IsOnce) (sym c.in_ok-push.ensures.items) (All-push IsOnce lists c.walk.result (c.loop-i.invariant.once old) one);
    }
