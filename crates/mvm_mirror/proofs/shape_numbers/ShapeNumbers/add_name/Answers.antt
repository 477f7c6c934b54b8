use Rattle.std.proofs.Common.{◌∙◌}
use Rattle.mvm_set.proofs.Numbered.{text_added}
use Rattle.mvm_set.specs.Set.{look}
use Rattle.mvm_mirror.specs.ShapeKeys.{number_under}
use Rattle.mvm_mirror.proofs.Keyed.{found_named, sound_named}
use Rattle.mvm_mirror.proofs.shape_numbers.ShapeNumbers.add_name.Goals as goal

pub returns-clause-same : goal.returns-clause-same
returns-clause-same c = λ shape.
    found_named (look c.args.self.now.names (λ key. key.items)) (look c.insert.new.self (λ key. key.items)) c.args.self.now.next (number_under c.args.self.now.numbers) c.requires.sound c.args.name.now c.requires.new
    (text_added (λ key. key.items) c.args.self.now.names c.insert.new.self c.in_ok-units.units c.args.name.now c.args.self.now.next (c.in_ok-units.ensures.items ∙ c.units.ensures) c.in_ok-insert.ensures.updates) shape

pub returns-clause-sound : goal.returns-clause-sound
returns-clause-sound c =
    sound_named (look c.args.self.now.names (λ key. key.items)) (look c.insert.new.self (λ key. key.items)) c.args.self.now.next (number_under c.args.self.now.numbers) c.requires.sound c.args.name.now c.requires.new
    (text_added (λ key. key.items) c.args.self.now.names c.insert.new.self c.in_ok-units.units c.args.name.now c.args.self.now.next (c.in_ok-units.ensures.items ∙ c.units.ensures) c.in_ok-insert.ensures.updates)
