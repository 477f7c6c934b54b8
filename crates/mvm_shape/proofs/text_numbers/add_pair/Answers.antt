use Rattle.mvm_shape.proofs.TextNumbers.{pair_added}
use Rattle.mvm_shape.proofs.text_numbers.add_pair.Goals as goal

pub returns-in_ok-is_new-in-Some-desc-clause-next : goal.returns-in_ok-is_new-in-Some-desc-clause-next
returns-in_ok-is_new-in-Some-desc-clause-next c = λ a b.
    rw (c.in-Some.is, c.in-Some-desc.is) (pair_added c.args.pairs.now c.insert.new.self c.in-Some.name c.in-Some-desc.desc c.in_ok-is_new-in-Some-desc.ensures.updates a b)
