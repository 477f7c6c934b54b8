use Rattle.std.proofs.Common.{◌≡◌, ◌∷◌, ◌++◌, [], List, Some, None, ap, ◌∙◌, arith}
use Rattle.mvm_set.proofs.Sources.{source_added}
use Rattle.mvm_mirror.specs.declared.mirror.Mirror.{Mirror}
use Rattle.mvm_mirror.specs.Kept.{classes_of}
use Rattle.mvm_mirror.specs.Seen.{number_of}
use Rattle.mvm_mirror.proofs.Added.{Adds, kept_push, number_added, seen_push}
use Rattle.mvm_mirror.proofs.mirrors.Mirrors.put.Goals as goal

pub invariant_of-self-2 : goal.invariant_of-self-2
invariant_of-self-2 c =
    let is : c.push.new.self.items ≡ c.self.inside.mirrors.items ++ c.args.mirror ∷ [] = c.in-Ok.ensures.items ∙ ap (λ (l : List Mirror). l ++ c.args.mirror ∷ []) c.in_ok-reserve.ensures.items in
    let new : number_of c.args.name.now (classes_of c.self.inside.mirrors.items) ≡ None = rw c.self.view_is c.requires.new in
    let adds : Adds c.self.inside.mirrors.items c.args.mirror c.args.name.now = record { named = c.requires.named; is_fresh = c.requires.fresh; is_new = new } in
    kept_push _ _ c.self.inside.mirrors.items c.push.new.self.items c.args.mirror c.args.name.now c.in_ok-key.key.items c.len-count.result c.self.invariant adds is (c.in_ok-key.ensures.items ∙ c.units.ensures)
    (omega (arith, c.len-count.ensures, c.self.inside.mirrors.ok.0))
    (omega (arith, c.len-count.ensures, c.self.inside.mirrors.ok.0, c.if-count-ge-MOST_CLASSES.false))
    (λ other. source_added (λ key. key.items) c.self.inside.numbers c.insert.new.self c.in_ok-key.key (Some c.len-count.result) c.in_ok-insert.ensures.updates other)

pub returns-clause-number : goal.returns-clause-number
returns-clause-number c =
    let is : c.push.new.self.items ≡ c.self.inside.mirrors.items ++ c.args.mirror ∷ [] = c.in-Ok.ensures.items ∙ ap (λ (l : List Mirror). l ++ c.args.mirror ∷ []) c.in_ok-reserve.ensures.items in
    let new : number_of c.args.name.now (classes_of c.self.inside.mirrors.items) ≡ None = rw c.self.view_is c.requires.new in
    let adds : Adds c.self.inside.mirrors.items c.args.mirror c.args.name.now = record { named = c.requires.named; is_fresh = c.requires.fresh; is_new = new } in
    number_added c.self.inside.mirrors.items c.push.new.self.items c.args.mirror c.args.name.now c.len-count.result adds is (omega (arith, c.len-count.ensures, c.self.inside.mirrors.ok.0))

pub returns-clause-same : goal.returns-clause-same
returns-clause-same c =
    let is : c.push.new.self.items ≡ c.self.inside.mirrors.items ++ c.args.mirror ∷ [] = c.in-Ok.ensures.items ∙ ap (λ (l : List Mirror). l ++ c.args.mirror ∷ []) c.in_ok-reserve.ensures.items in
    rw (← c.self.view_is) (seen_push c.self.inside.mirrors.items c.push.new.self.items c.args.mirror c.requires.fresh is)
