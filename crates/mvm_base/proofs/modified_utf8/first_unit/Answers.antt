use Rattle.std.proofs.Common.{◌∙◌, sym, ap}
use Rattle.mvm_base.specs.ModifiedUtf8.{is_one_byte}
use Rattle.mvm_base.proofs.Units.{one_begins, none_of, not_one, no_first}
use Rattle.mvm_base.proofs.modified_utf8.first_unit.Goals as goal

pub returns-then-not-is_one_byte-clause-none : goal.returns-then-not-is_one_byte-clause-none
returns-then-not-is_one_byte-clause-none c = λ u other h e. not_one u c.in-Some.first c.in-Some.rest.now other c.if-first-lt192.true (ap is_one_byte (sym c.from.ensures) ∙ sym c.if-not-is_one_byte.ensures) (sym c.in-Some.ensures.some ∙ e)

pub returns-then-first-lt192-clause-some : goal.returns-then-first-lt192-clause-some
returns-then-first-lt192-clause-some c = c.in-Some.ensures.some ∙ one_begins c.in-Some.first c.from.result c.from-then-first-lt192.result c.in-Some.rest.now c.from.ensures c.from-then-first-lt192.ensures (sym c.if-not-is_one_byte.ensures)

pub returns-else-first-lt240-clause-none : goal.returns-else-first-lt240-clause-none
returns-else-first-lt240-clause-none c = λ u other h e. no_first u c.in-Some.first c.in-Some.rest.now other h c.if-first-lt240.false (sym c.in-Some.ensures.some ∙ e)

pub returns-in-None-clause-none : goal.returns-in-None-clause-none
returns-in-None-clause-none c = λ u other h e. none_of u other (sym c.in-None.ensures.none ∙ e)
