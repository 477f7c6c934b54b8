use Rattle.mvm_history.specs.Merged.{items}
use Rattle.mvm_history.proofs.Inserting.{sorted_same, sorted_ordered, in_order}
use Rattle.mvm_history.proofs.OneIsolate.{only_merge, merge_is}
use Rattle.mvm_history.proofs.laws.order_law.Goals as goal

pub returns-clause-whole : goal.returns-clause-whole
returns-clause-whole c = λ hs. sorted_same (items hs)

pub returns-clause-ordered : goal.returns-clause-ordered
returns-clause-ordered c = λ hs. sorted_ordered (items hs)

pub returns-clause-words : goal.returns-clause-words
returns-clause-words c = λ x y is. in_order x.entry.stamp x.isolate x.place y.entry.stamp y.isolate y.place is

pub returns-clause-only : goal.returns-clause-only
returns-clause-only c = only_merge

pub returns-clause-each : goal.returns-clause-each
returns-clause-each c = merge_is
