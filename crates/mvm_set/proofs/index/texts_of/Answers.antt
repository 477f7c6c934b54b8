use Rattle.mvm_set.specs.Set.{look}
use Rattle.mvm_set.proofs.Numbered.{no_numbers, kept_all}
use Rattle.mvm_set.proofs.index.texts_of.Goals as goal

pub returns-clause-numbers : goal.returns-clause-numbers
returns-clause-numbers c =
    c.in_ok-add_texts-2.ensures.numbers (c.in_ok-add_texts.ensures.numbers (no_numbers c.args.parts.now.pool c.new-texts.result (λ key. key.items) c.new-texts.ensures.empty))

pub returns-clause-fields : goal.returns-clause-fields
returns-clause-fields c =
    kept_all c.args.parts.now.pool (look c.add_texts.new.texts (λ key. key.items)) (look c.add_texts-2.new.texts (λ key. key.items)) c.args.parts.now.fields c.in_ok-add_texts-2.ensures.kept
    (rw (← c.as_slice.ensures) c.in_ok-add_texts.ensures.have)

pub returns-clause-methods : goal.returns-clause-methods
returns-clause-methods c = rw (← c.as_slice-2.ensures) c.in_ok-add_texts-2.ensures.have
