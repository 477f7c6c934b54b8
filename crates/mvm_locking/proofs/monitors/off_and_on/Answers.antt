use Rattle.std.proofs.Common.{ap, ◌∙◌}
use Rattle.mvm_current.specs.Frames.{at_place}
use Rattle.mvm_locking.proofs.Tops.{dropped}
use Rattle.mvm_locking.proofs.monitors.off_and_on.Goals as goal

pub returns-clause-does : goal.returns-clause-does
returns-clause-does c n = c.set_place.ensures.does n ∙ ap (at_place c.args.next) (dropped n 1 c.args.stack.now c.drop_slots.new.self c.drop_slots.ensures.operands c.drop_slots.ensures.rest)
