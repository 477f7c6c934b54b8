use Rattle.mvm_heap.proofs.Stores.{seen_none}
use Rattle.mvm_heap.proofs.store.Store.new.Goals as goal

pub returns : goal.returns
returns c = rw c.in_ok-directory.ensures.items (seen_none c.args.region.words)
