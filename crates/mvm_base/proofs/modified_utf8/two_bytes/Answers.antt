use Rattle.std.proofs.Common.{sym, ◌%◌}
use Rattle.mvm_base.proofs.Units.{two_of, two_begins, two_short}
use Rattle.mvm_base.proofs.modified_utf8.two_bytes.Goals as goal

pub returns-then-is_one_byte-clause-none : goal.returns-then-is_one_byte-clause-none
returns-then-is_one_byte-clause-none c = λ u other h e. two_short u c.args.first c.in-Some.low c.args.rest.now c.in-Some.more.now other c.requires.low c.requires.high c.in-Some.ensures.some (sym c.if-is_one_byte.ensures) e

pub returns-else-is_one_byte-clause-some : goal.returns-else-is_one_byte-clause-some
returns-else-is_one_byte-clause-some c = two_begins c.args.first c.in-Some.low c.args.rest.now c.in-Some.more.now c.requires.low c.requires.high c.in-Some.ensures.low c.in-Some.ensures.some (sym c.if-is_one_byte.ensures)

pub returns-in-None-clause-none : goal.returns-in-None-clause-none
returns-in-None-clause-none c = λ u other h e. (let w = two_of u other c.args.first c.args.rest.now e c.requires.low c.requires.high in c.in-None.ensures.none (u % 64) other w.3 w.1)
