use Rattle.std.proofs.Common.{◌∙◌}
use Rattle.mvm_isolate.specs.Numbered.{look_of}
use Rattle.mvm_throwing.proofs.Handled.{code_handler, codeless_handler, no_handler}
use Rattle.mvm_throwing.proofs.handlers.handler_for.Goals as goal

pub returns-then-key-eq-NO_METHOD : goal.returns-then-key-eq-NO_METHOD
returns-then-key-eq-NO_METHOD c = no_handler c.args.isolate.now c.args.key c.args.pc (look_of c.args.isolate.now) _ c.if-key-eq-NO_METHOD.true

pub returns-in-Some-code : goal.returns-in-Some-code
returns-in-Some-code c =
    c.handler_in.ensures ∙ rw (c.pool_of.ensures, c.get-in-Some-code.ensures, c.as_slice.ensures)
    (code_handler c.args.isolate.now c.args.key c.args.pc c.class-class.result.now c.in-Some.method.now _ c.in-Some-code.code c.if-key-eq-NO_METHOD.false c.requires.key c.class-class.ensures.at (rw c.get.ensures at c.in-Some.ensures) c.class-class.ensures.value c.in-Some-code.is)

pub returns-in-None-code : goal.returns-in-None-code
returns-in-None-code c =
    codeless_handler c.args.isolate.now c.args.key c.args.pc c.class-class.result.now c.in-Some.method.now _ c.if-key-eq-NO_METHOD.false c.requires.key c.class-class.ensures.at (rw c.get.ensures at c.in-Some.ensures) c.class-class.ensures.value c.in-None-code.is
