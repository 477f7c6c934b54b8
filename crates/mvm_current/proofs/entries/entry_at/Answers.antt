use Rattle.mvm_isolate.specs.Numbered.{look_of}
use Rattle.mvm_current.proofs.Called.{entry_found, no_entry}
use Rattle.mvm_current.proofs.entries.entry_at.Goals as goal

pub returns-in-Some-clause-answer : goal.returns-in-Some-clause-answer
returns-in-Some-clause-answer g c = rw (entry_found c.args.isolate.now c.args.stack.now c.in-Some.key (look_of c.args.isolate.now) c.args.index c.in-Some.ensures.key c.in-Some.ensures.method c.requires.keys) c.entry.ensures.answer

pub returns-in-None-clause-answer : goal.returns-in-None-clause-answer
returns-in-None-clause-answer g c other = no_entry c.args.isolate.now c.args.stack.now (look_of c.args.isolate.now) c.args.index c.requires.frame c.in-None.ensures.none
