use Rattle.std.proofs.Common.{sym, ◌∙◌, arith}
use Rattle.mvm_current.proofs.KeyLaws.{top_is_method, top_is_start, top_is_initialiser}
use Rattle.mvm_current.proofs.frames.current_run.Goals as goal

pub returns-then-key-clause-does : goal.returns-then-key-clause-does
returns-then-key-clause-does c n keys = top_is_method n c.args.stack.now c.in-Some.key (sym c.top.ensures ∙ c.in-Some.is) c.if-key.true keys

pub returns-then-pc-eq0-clause-does : goal.returns-then-pc-eq0-clause-does
returns-then-pc-eq0-clause-does c n keys = top_is_start n c.args.stack.now c.in-Some.key (sym c.top.ensures ∙ c.in-Some.is) c.if-key.false (sym c.pc.ensures ∙ c.if-pc-eq0.true)

pub returns-else-pc-eq0-clause-does : goal.returns-else-pc-eq0-clause-does
returns-else-pc-eq0-clause-does c n keys = top_is_initialiser n c.args.stack.now c.in-Some.key (sym c.top.ensures ∙ c.in-Some.is) c.if-key.false (λ e. c.if-pc-eq0.false (c.pc.ensures ∙ e)) keys
