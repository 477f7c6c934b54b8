use Rattle.std.proofs.Common.{sym, ◌∙◌, arith}
use Rattle.mvm_builtin.proofs.Halving.{longer, shorter}
use Rattle.mvm_builtin.proofs.index.compare_text.Goals as goal

pub returns-then-i-units : goal.returns-then-i-units
returns-then-i-units c = sym (longer c.args.text.now c.args.units.now c.loop-i.i (omega arith) (omega arith)) ∙ c.loop-i.invariant.same

pub returns-then-text-units : goal.returns-then-text-units
returns-then-text-units c = sym (shorter c.args.text.now c.args.units.now c.loop-i.i (omega arith) (omega arith)) ∙ c.loop-i.invariant.same
