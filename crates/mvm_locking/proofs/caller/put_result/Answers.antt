use Rattle.mvm_locking.proofs.Results.{never_over, put_is}
use Rattle.mvm_locking.proofs.caller.put_result.Goals as goal

pub unreachable-requires : goal.unreachable-requires
unreachable-requires c = never_over c.args.stack.now.rest.below c.in-Some.word c.args.stack.now.operands c.in-Err.field-0 c.requires.frame (rw c.in-Some.is at c.requires.room) c.in-Err.ensures.does

pub returns-in-Ok-clause-does : goal.returns-in-Ok-clause-does
returns-in-Ok-clause-does c n = rw c.in-Some.is (put_is n c.args.stack.now c.push.new.self c.in-Some.word c.requires.frame c.in-Ok.ensures.does c.in-Ok.ensures.rest)
