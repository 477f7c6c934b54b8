use Rattle.std.proofs.Common.{◌∙◌, ap, arith, fold}
use Rattle.std.proofs.lemmas.List.{take_all}
use Rattle.mvm_heap.specs.Index.{hashed, hashed_more}
use Rattle.mvm_heap.proofs.index.hashed.Goals as goal

pub returns-clause-hash : goal.returns-clause-hash
unfolding hashed
returns-clause-hash c = c.loop-unit.invariant.hash ∙ ap (fold hashed_more 0) (take_all c.loop-unit.unit-index c.args.units.now (omega arith))
