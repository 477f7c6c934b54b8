use Rattle.mvm_set.proofs.Numbered.{place_added}
use Rattle.mvm_set.proofs.index.add_place.Goals as goal

pub returns-in_ok-insert-in-Some-desc : goal.returns-in_ok-insert-in-Some-desc
returns-in_ok-insert-in-Some-desc c = λ a b.
    rw (c.in-Some.is, c.in-Some-desc.is) (place_added c.args.places.now c.insert.new.self c.in-Some.name c.in-Some-desc.desc c.args.at c.in_ok-insert-in-Some-desc.ensures.updates a b)
