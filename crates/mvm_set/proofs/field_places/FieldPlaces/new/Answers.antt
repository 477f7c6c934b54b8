use Rattle.std.proofs.Common.{◌≡◌, ◌+◌, ◌++◌, [], List, false, drop, subst, sym, ◌∙◌, arith}
use Rattle.std.proofs.lemmas.Grind.{common_steps}
use Rattle.std.proofs.lemmas.List.{append-nil}
use Rattle.mvm_layout.specs.declared.parts.Member.{Member}
use Rattle.mvm_set.specs.FieldPlaces.{count_of}
use Rattle.mvm_set.proofs.FieldPlaces.{counts, counts_all}
use Rattle.mvm_set.proofs.field_places.FieldPlaces.new.Goals as goal

pub returns : goal.returns
returns c =
    let loop = c.loop-i in
    let fields = c.args.fields.now in
    let none : drop loop.i fields ≡ [] = grind (arith, common_steps) in
    let counted = subst (λ (rest : List Member). loop.before.items ++ counts loop.statics loop.instance rest ≡ counts 0 0 fields) none loop.invariant.counted in
    let left = subst (λ (rest : List Member). loop.instance + count_of false rest ≡ count_of false fields) none loop.invariant.left in
    record {
      before = λ index. counts_all fields loop.before.items index (sym (append-nil loop.before.items) ∙ counted);
      instance = omega (arith, left);
    }
