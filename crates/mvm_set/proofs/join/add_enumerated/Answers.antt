use Rattle.std.proofs.Common.{◌≡◌, ◌+◌, [], ◌∷◌, ◌++◌, List, drop, refl, sym, ap, subst, ◌∙◌, append_assoc, arith}
use Rattle.std.specs.List.{All}
use Rattle.std.proofs.lemmas.Grind.{common_steps}
use Rattle.std.proofs.lemmas.List.Elements.{All-push}
use Rattle.mvm_set.specs.ClassOf.{own_walk_name}
use Rattle.mvm_set.specs.Once.{once}
use Rattle.mvm_set.specs.Over.{itself, enumerated_of}
use Rattle.mvm_set.specs.Seen.{joined, IsOnce}
use Rattle.mvm_set.specs.declared.class.Lineage.{Lineage}
use Rattle.mvm_set.specs.declared.own.OwnWalk.{OwnWalk}
use Rattle.mvm_set.proofs.Single.{more_lists}
use Rattle.mvm_set.proofs.join.add_enumerated.Goals as goal

pub loop-i-preserved : goal.loop-i-preserved
loop-i-preserved c =
    let class = c.index-classes-i.result in
    let lists = c.loop-i.lists.items in
    let behind = drop (c.loop-i.i + 1) c.args.classes.now in
    let e : drop c.loop-i.i c.args.classes.now ≡ class ∷ behind = grind (arith, common_steps) in
    let list : c.superinterfaces.result.now ≡ class.superinterfaces = c.superinterfaces.ensures.value ∙ ap (λ (one : Lineage). one.superinterfaces) c.get-class.ensures in
    let own : c.itself.result.now ≡ itself class ∷ [] = c.itself.ensures ∙ ap (λ (one : Lineage). itself one ∷ []) c.get-class.ensures in
    let first : once own_walk_name c.superinterfaces.result.now ≡ c.superinterfaces.result.now =
    subst (λ (owns : List OwnWalk). once own_walk_name owns ≡ owns) (sym c.superinterfaces.ensures.value) c.superinterfaces.ensures.once in
    let second : once own_walk_name c.itself.result.now ≡ c.itself.result.now = subst (λ (owns : List OwnWalk). once own_walk_name owns ≡ owns) (sym own) refl in
    record {
      joined =
          ap (λ (owns : List OwnWalk). owns ++ enumerated_of behind)
          (more_lists c.push.new.self.items c.push-in-loop-i.new.self.items c.itself.result c.in_ok-push-2.ensures.items
          ∙ ap (λ (owns : List OwnWalk). owns ++ c.itself.result.now) (more_lists lists c.push.new.self.items c.superinterfaces.result c.in_ok-push.ensures.items)
          ∙ ap (λ (owns : List OwnWalk). (joined lists ++ c.superinterfaces.result.now) ++ owns) own
          ∙ ap (λ (owns : List OwnWalk). (joined lists ++ owns) ++ itself class ∷ []) list)
          ∙ append_assoc (joined lists ++ class.superinterfaces) (itself class ∷ []) (enumerated_of behind)
          ∙ append_assoc (joined lists) class.superinterfaces (itself class ∷ enumerated_of behind)
          ∙ ap (λ (classes : List Lineage). joined lists ++ enumerated_of classes) (sym e)
          ∙ c.loop-i.invariant.joined;
      once = λ old.
          subst (All IsOnce) (sym c.in_ok-push-2.ensures.items)
          (All-push IsOnce c.push.new.self.items c.itself.result
          (subst (All IsOnce) (sym c.in_ok-push.ensures.items) (All-push IsOnce lists c.superinterfaces.result (c.loop-i.invariant.once old) first))
          second);
    }
