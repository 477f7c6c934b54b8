use Rattle.std.proofs.Common.{rules, ◌≡◌, ◌∙◌, map}
use Rattle.mvm_history.specs.Rows.{placed_row}
use Rattle.mvm_history.proofs.Rowwise.{places_merged}
use Rattle.mvm_history.proofs.merging.merge.Goals as goal

pub returns : goal.returns
returns c =
    let places : c.from_vec.result ≡ map placed_row c.sort_unstable.new.self.items = search rules in
    places ∙ places_merged c.args.histories.now _ _ (search rules) c.sort_unstable.ensures.permutation c.sort_unstable.ensures.sorted
