use Rattle.std.proofs.Common.{sym, ◌∙◌}
use Rattle.mvm_set.specs.Set.{look}
use Rattle.mvm_set.proofs.Numbered.{text_added, still_numbers, still_kept, now_numbered}
use Rattle.mvm_set.proofs.index.add_text.Goals as goal

pub returns-in_ok-insert-in-Some-clause-numbers : goal.returns-in_ok-insert-in-Some-clause-numbers
returns-in_ok-insert-in-Some-clause-numbers c =
    still_numbers c.args.pool.now c.in-Some.name.now c.args.index (look c.args.texts.now (λ key. key.items)) (look c.insert.new.self (λ key. key.items)) (sym c.in-Some.ensures)
    (text_added (λ key. key.items) c.args.texts.now c.insert.new.self c.in_ok-units-in-Some.units c.in-Some.name.now c.args.index (c.in_ok-units-in-Some.ensures.items ∙ c.units.ensures) c.in_ok-insert-in-Some.ensures.updates)

pub returns-in_ok-insert-in-Some-clause-kept : goal.returns-in_ok-insert-in-Some-clause-kept
returns-in_ok-insert-in-Some-clause-kept c =
    still_kept c.args.pool.now c.in-Some.name.now c.args.index (look c.args.texts.now (λ key. key.items)) (look c.insert.new.self (λ key. key.items)) (sym c.in-Some.ensures)
    (text_added (λ key. key.items) c.args.texts.now c.insert.new.self c.in_ok-units-in-Some.units c.in-Some.name.now c.args.index (c.in_ok-units-in-Some.ensures.items ∙ c.units.ensures) c.in_ok-insert-in-Some.ensures.updates)

pub returns-in_ok-insert-in-Some-clause-has : goal.returns-in_ok-insert-in-Some-clause-has
returns-in_ok-insert-in-Some-clause-has c =
    now_numbered c.args.pool.now c.in-Some.name.now c.args.index (look c.args.texts.now (λ key. key.items)) (look c.insert.new.self (λ key. key.items)) (sym c.in-Some.ensures)
    (text_added (λ key. key.items) c.args.texts.now c.insert.new.self c.in_ok-units-in-Some.units c.in-Some.name.now c.args.index (c.in_ok-units-in-Some.ensures.items ∙ c.units.ensures) c.in_ok-insert-in-Some.ensures.updates)
