use Rattle.std.proofs.Common.{ℕ, Option, Some, cond, sym, ap, ◌∙◌}
use Rattle.mvm_set.specs.Set.{look}
use Rattle.mvm_mirror.specs.Shapes.{is_shape}
use Rattle.mvm_mirror.specs.ShapeKeys.{number_under}
use Rattle.mvm_mirror.proofs.Keyed.{found_added, sound_added}
use Rattle.mvm_mirror.proofs.SameShape.{under_added}
use Rattle.mvm_mirror.proofs.shape_numbers.ShapeNumbers.insert.Goals as goal

pub returns-clause-ok : goal.returns-clause-ok
returns-clause-ok c = λ other.
    found_added (look c.add_base.new.self.names (λ key. key.items)) c.add_base.new.self.next (number_under c.add_base.new.self.numbers) (number_under c.insert.new.self) c.in_ok-add_base.ensures.sound
    c.args.shape.now c.in-Some.key c.args.number (sym c.in-Some.ensures)
    (under_added c.add_base.new.self.numbers c.insert.new.self c.in-Some.key c.args.number c.in_ok-insert-in-Some.ensures.updates.0) other
    ∙ ap (λ (r : Option ℕ). cond (is_shape c.args.shape.now other) (Some c.args.number) r) (c.in_ok-add_base.ensures.same other)

pub returns-clause-sound : goal.returns-clause-sound
returns-clause-sound c =
    sound_added (look c.add_base.new.self.names (λ key. key.items)) c.add_base.new.self.next (number_under c.add_base.new.self.numbers) (number_under c.insert.new.self) c.in_ok-add_base.ensures.sound
    c.args.shape.now c.in-Some.key c.args.number (sym c.in-Some.ensures)
    (under_added c.add_base.new.self.numbers c.insert.new.self c.in-Some.key c.args.number c.in_ok-insert-in-Some.ensures.updates.0)
