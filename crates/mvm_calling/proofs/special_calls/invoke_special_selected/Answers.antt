use Rattle.std.proofs.Common.{List, ℕ, refl, subst, sym, ap, ◌∙◌}
use Rattle.mvm_isolate.specs.Numbered.{name_at}
use Rattle.mvm_current.specs.Frames.{method}
use Rattle.mvm_current.proofs.Called.{runs_as}
use Rattle.mvm_object.specs.Coming.{point_of}
use Rattle.mvm_invoke.specs.Leaving.{Leaves}
use Rattle.mvm_calling.proofs.SpecialSelecting.{special_so}
use Rattle.mvm_calling.proofs.special_calls.invoke_special_selected.Goals as goal

pub returns-clause-does : goal.returns-clause-does
returns-clause-does c context next told =
    let is = c.requires.call in
    let e = sym c.in-Some.ensures in
    let x = runs_as c.args.isolate.now c.args.stack.now c.in-Some.field-0 e (rw e at c.requires.method) c.requires.keys in
    subst (λ definition. Leaves c.known_called.result definition c.args.isolate.now c.known_called.new.stack)
    (sym (special_so context c.args.isolate.now c.args.call.now is next (point_of c.args.isolate.now c.args.stack.now) x.has.names.name x.has.names.desc c.requires.receiver told.look
    (x.runs ∙ ap (λ (own : List ℕ). method own x.has.names.name x.has.names.desc) (sym x.class ∙ ap (λ (mirror : ℕ). name_at c.args.isolate.now mirror) (c.requires.home c.in-Some.field-0 e))) refl))
    (c.known_called.ensures.does context is.member told is.runs)
