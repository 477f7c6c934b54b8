use Rattle.std.proofs.Common.{sym, ap, ◌∙◌}
use Rattle.std.specs.Prelude.{is_some}
use Rattle.mvm_locking.proofs.Results.{goes_on, ends, keys_here}
use Rattle.mvm_locking.proofs.caller.returned.Goals as goal

pub returns-then-is_some-clause-does : goal.returns-then-is_some-clause-does
returns-then-is_some-clause-does c n =
    goes_on n c.args.stack.now c.left.new.stack c.put_result.new.stack c.move_on.new.stack c.args.value c.args.next c.left.ensures (sym (ap is_some c.top.ensures) ∙ sym c.is_some.ensures ∙ c.if-is_some.true)
    (c.put_result.ensures.does n) c.put_result.ensures.rest (c.move_on.ensures.does n) c.move_on.ensures.below

pub returns-then-is_some-clause-keys : goal.returns-then-is_some-clause-keys
returns-then-is_some-clause-keys c n keys = keys_here n c.args.stack.now c.left.new.stack c.put_result.new.stack c.move_on.new.stack c.left.ensures c.put_result.ensures.rest c.move_on.ensures.below keys

pub returns-else-is_some-clause-does : goal.returns-else-is_some-clause-does
returns-else-is_some-clause-does c n = ends n c.args.stack.now c.left.new.stack c.args.value c.args.next c.left.ensures (sym (ap is_some c.top.ensures) ∙ sym c.is_some.ensures ∙ c.if-is_some.false)
