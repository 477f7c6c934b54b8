use Rattle.mvm_shape.specs.TextNumbers.{holds_pair}
use Rattle.mvm_shape.proofs.TextNumbers.{adds}
use Rattle.mvm_shape.proofs.text_numbers.is_repeated.Goals as goal

pub returns : goal.returns
returns c =
    adds c.args.pool.now c.args.numbers.now c.requires (holds_pair c.args.pairs.now) (holds_pair c.add_pair.new.pairs) c.args.member.now c.in_ok-repeated.repeated
    (rw (← c.number_at-name.ensures, ← c.number_at-desc.ensures) c.in_ok-repeated.ensures.had) (rw (← c.number_at-name.ensures, ← c.number_at-desc.ensures) c.in_ok-repeated.ensures.next)
