use Rattle.std.proofs.Common.{sym}
use Rattle.mvm_isolate.specs.Numbered.{look_of}
use Rattle.mvm_current.proofs.Methods.{method_found, no_method}
use Rattle.mvm_current.proofs.code.method_of.Goals as goal

pub returns-in-Some-declared_at-clause-exact : goal.returns-in-Some-declared_at-clause-exact
returns-in-Some-declared_at-clause-exact c = sym (method_found c.args.isolate.now c.args.stack.now c.in-Some.key c.in-Some-declared_at.method.now c.in-Some.ensures.key c.in-Some.ensures.method c.requires.keys c.in-Some-declared_at.ensures.value c.declared_at.ensures.class)

pub returns-in-None-clause-exact : goal.returns-in-None-clause-exact
returns-in-None-clause-exact c = sym (no_method c.args.isolate.now c.args.stack.now (look_of c.args.isolate.now) c.requires.frame c.in-None.ensures.none)
