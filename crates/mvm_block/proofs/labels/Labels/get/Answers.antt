use Rattle.std.proofs.Common.{ℕ, List, ap, ◌∙◌}
use Rattle.mvm_listing.specs.Blocks.{Labels, labelled}
use Rattle.mvm_block.specs.Labels.{found}
use Rattle.mvm_block.proofs.Found.{get_is}
use Rattle.mvm_block.proofs.labels.Labels.get.Goals as goal

pub returns : goal.returns
returns c =
    c.copied.ensures ∙ c.get.ensures.value ∙ get_is c.self.inside.places c.units.result.now
    ∙ ap (λ (name : List ℕ). found c.self.inside.places name) c.units.ensures
    ∙ c.self.invariant c.args.name.now
    ∙ ap (λ (labels : Labels). labelled labels c.args.name.now) c.self.view_is
