use Rattle.mvm_heap.proofs.Items.{whole_item}
use Rattle.mvm_heap.proofs.packing.item_at.Goals as goal

pub returns-then-bits-eq64 : goal.returns-then-bits-eq64
returns-then-bits-eq64 c = whole_item _ _ _ _ c.if-bits-eq64.true c.requires.there c.requires.within c.ranges.word.fits
