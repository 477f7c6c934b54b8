use Rattle.std.proofs.Common.{◌∷◌, ◌+◌, ◌/◌, ◌%◌, arith}
use Rattle.mvm_base.proofs.Units.{three_of, three_begins, three_short, three_cut}
use Rattle.mvm_base.proofs.modified_utf8.three_bytes.Goals as goal

pub returns-then-unit-lt2048-clause-none : goal.returns-then-unit-lt2048-clause-none
returns-then-unit-lt2048-clause-none c = λ u other h e. three_short u c.args.first c.in-Some.middle c.in-Some-next_six.low c.args.rest.now c.in-Some.rest.now c.in-Some-next_six.more.now other c.requires.low c.in-Some.ensures.some c.in-Some-next_six.ensures.some c.if-unit-lt2048.true e

pub returns-else-unit-lt2048-clause-some : goal.returns-else-unit-lt2048-clause-some
returns-else-unit-lt2048-clause-some c = three_begins c.args.first c.in-Some.middle c.in-Some-next_six.low c.args.rest.now c.in-Some.rest.now c.in-Some-next_six.more.now c.requires.low c.in-Some.ensures.low c.in-Some-next_six.ensures.low c.in-Some.ensures.some c.in-Some-next_six.ensures.some c.if-unit-lt2048.false

pub returns-in-None-next_six-clause-none : goal.returns-in-None-next_six-clause-none
returns-in-None-next_six-clause-none c = λ u other h e. three_cut u c.args.first c.in-Some.middle c.args.rest.now c.in-Some.rest.now other c.requires.low c.in-Some.ensures.some c.in-None-next_six.ensures.none e

pub returns-in-None-clause-none : goal.returns-in-None-clause-none
returns-in-None-clause-none c = λ u other h e. (let w = three_of u other c.args.first c.args.rest.now e c.requires.low in c.in-None.ensures.none (u / 64 % 64) ((128 + u % 64) ∷ other) (omega arith) w.1)
