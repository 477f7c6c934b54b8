use Rattle.std.proofs.Common.{◌≡◌, take}
use Rattle.mvm_shape.specs.TextFacts.{all_facts}
use Rattle.mvm_shape.proofs.text_facts.all_facts.Given as goal

abbrev pub invariant-loop-item : goal.invariant-loop-item
invariant-loop-item l = l.rows.items ≡ all_facts (take l.item-index l.pool)
