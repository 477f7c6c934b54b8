use Rattle.std.proofs.Common.{sym}
use Rattle.std.specs.Prelude.{Ok, Err}
use Rattle.mvm_isolate.specs.Numbered.{look_of}
use Rattle.mvm_locking.proofs.Behind.{none_below, bare_below, method_below, key_below}
use Rattle.mvm_locking.proofs.caller.next_below.Goals as goal

pub returns-then-place-clause-is : goal.returns-then-place-clause-is
returns-then-place-clause-is c = sym (bare_below c.args.isolate.now (look_of c.args.isolate.now) c.args.stack.now c.in-Some.place (sym c.in-Some.ensures.is) c.if-place.true)

pub behind_call-requires-clause-key : goal.behind_call-requires-clause-key
behind_call-requires-clause-key c = key_below c.args.isolate.now c.args.stack.now c.in-Some.place (sym c.in-Some.ensures.is) c.requires.keys

pub returns-in-Ok-clause-is : goal.returns-in-Ok-clause-is
returns-in-Ok-clause-is c = sym (method_below c.args.isolate.now (look_of c.args.isolate.now) c.args.stack.now c.in-Some.place (Ok c.in-Ok.next) (sym c.in-Some.ensures.is) c.if-place.false c.requires.keys (sym c.in-Ok.ensures))

pub returns-in-Err-clause-is : goal.returns-in-Err-clause-is
returns-in-Err-clause-is c = sym (method_below c.args.isolate.now (look_of c.args.isolate.now) c.args.stack.now c.in-Some.place (Err c.in-Err.stop) (sym c.in-Some.ensures.is) c.if-place.false c.requires.keys (sym c.in-Err.ensures))

pub returns-in-None-clause-is : goal.returns-in-None-clause-is
returns-in-None-clause-is c = sym (none_below c.args.isolate.now (look_of c.args.isolate.now) c.args.stack.now (sym c.in-None.ensures.is))
