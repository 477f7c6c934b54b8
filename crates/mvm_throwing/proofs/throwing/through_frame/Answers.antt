use Rattle.mvm_isolate.specs.Numbered.{look_of, named}
use Rattle.mvm_current.proofs.Growth.{is_class_grows}
use Rattle.mvm_throwing.proofs.Going.{initialiser_ok, passes_method, passes_on, passes_start}
use Rattle.mvm_throwing.proofs.throwing.through_frame.Goals as goal

pub returns-then-key-ne-NO_METHOD-clause-does : goal.returns-then-key-ne-NO_METHOD-clause-does
returns-then-key-ne-NO_METHOD-clause-does c = passes_method (look_of c.args.isolate.now) c.args.isolate.now c.args.key c.args.pc c.args.object (named c.args.isolate.now) c.if-key-ne-NO_METHOD.true c.requires.key

pub returns-then-pc-eq0-clause-does : goal.returns-then-pc-eq0-clause-does
returns-then-pc-eq0-clause-does c = passes_start (look_of c.args.isolate.now) c.args.isolate.now c.args.key c.args.pc c.args.object (named c.args.isolate.now) c.if-key-ne-NO_METHOD.false c.if-pc-eq0.true

pub through_initialiser-passed-requires-clause-words : goal.through_initialiser-passed-requires-clause-words
through_initialiser-passed-requires-clause-words c = initialiser_ok (look_of c.args.isolate.now) c.args.isolate.now c.args.key c.args.pc _ c.if-key-ne-NO_METHOD.false c.if-pc-eq0.false c.requires.words

pub fail-requires : goal.fail-requires
fail-requires c = is_class_grows c.args.isolate.now c.through_initialiser-passed.new.isolate c.args.key.mirror c.through_initialiser-passed.ensures.grows c.requires.key.class

pub returns-clause-does : goal.returns-clause-does
returns-clause-does c = passes_on c.args.isolate.now c.through_initialiser-passed.new.isolate c.fail.new.self c.args.key c.args.pc c.through_initialiser-passed.result _ c.if-key-ne-NO_METHOD.false c.if-pc-eq0.false c.requires.key.class c.through_initialiser-passed.ensures.grows c.through_initialiser-passed.ensures.does c.fail.ensures.named
