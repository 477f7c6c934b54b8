use Rattle.std.proofs.Common.{◌≡◌, true, false, sym, ap, ◌∙◌}
use Rattle.std.specs.Str.{bytes_eq}
use Rattle.mvm_isolate.specs.Numbered.{name_at}
use Rattle.mvm_current.proofs.Called.{called_if, not_called, none_called}
use Rattle.mvm_current.proofs.entries.is_method_of.Goals as goal

pub returns-then-same : goal.returns-then-same
returns-then-same c =
    let same : bytes_eq c.args.class.now (name_at c.args.isolate.now c.in-Some.key.mirror) ≡ true = sym (ap (bytes_eq c.args.class.now) c.class_name.ensures) ∙ sym c.same.ensures.test ∙ c.if-same.true in
    called_if c.args.isolate.now c.args.stack.now c.in-Some.key c.args.class.now c.args.name.now c.is_named.result c.in-Some.ensures.key c.in-Some.ensures.method c.requires.keys same c.is_named.ensures

pub returns-else-same : goal.returns-else-same
returns-else-same c =
    let same : bytes_eq c.args.class.now (name_at c.args.isolate.now c.in-Some.key.mirror) ≡ false = sym (ap (bytes_eq c.args.class.now) c.class_name.ensures) ∙ sym c.same.ensures.test ∙ c.if-same.false in
    c.if-same.false ∙ sym (not_called c.args.isolate.now c.args.stack.now c.in-Some.key c.args.class.now c.args.name.now c.in-Some.ensures.key c.in-Some.ensures.method c.requires.keys same)

pub returns-in-None : goal.returns-in-None
returns-in-None c = sym (none_called c.args.isolate.now c.args.stack.now c.args.class.now c.args.name.now c.requires.frame c.in-None.ensures.none)
