use Rattle.std.proofs.Common.{sym, ap, subst, ◌∙◌}
use Rattle.mvm_listing.specs.Blocks.{Labels, labelled}
use Rattle.mvm_block.specs.Labels.{HasPlaces}
use Rattle.mvm_block.proofs.Found.{more_places}
use Rattle.mvm_block.proofs.labels.Labels.add.Goals as goal

pub invariant_of-self-in-Ok : goal.invariant_of-self-in-Ok
invariant_of-self-in-Ok c =
    subst (λ (given : Labels). HasPlaces given c.insert.new.self) (sym c.in_ok-push.ensures.items)
    (more_places c.self.inside.given.items c.self.inside.places c.insert.new.self c.in_ok-key.key c.args.name c.args.at c.self.invariant
    (ap (λ (given : Labels). labelled given c.args.name) c.self.view_is ∙ c.requires) (c.in_ok-key.ensures.items ∙ c.units.ensures) c.in-Ok.ensures.entries)
