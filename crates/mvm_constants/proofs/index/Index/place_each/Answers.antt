use Rattle.std.proofs.Common.{List, ℕ, get_or, take, subst, sym}
use Rattle.std.proofs.lemmas.List.{take_more}
use Rattle.mvm_constants.specs.Settling.{PlacesEach}
use Rattle.mvm_constants.proofs.Placing.{each_more}
use Rattle.mvm_constants.proofs.index.Index.place_each.Goals as goal

pub loop-at-preserved : goal.loop-at-preserved
loop-at-preserved c =
    subst (λ (xs : List ℕ). PlacesEach c.args.pool.now xs c.args.self.now c.place.new.self) (sym (take_more c.args.entries.now c.loop-at.at-index 0 c.loop-at-test.true))
    (each_more c.args.pool.now (take c.loop-at.at-index c.args.entries.now) (get_or c.args.entries.now c.loop-at.at-index 0) c.args.self.now c.loop-at.self c.place.new.self
    c.loop-at.invariant c.in_ok-place.ensures)
