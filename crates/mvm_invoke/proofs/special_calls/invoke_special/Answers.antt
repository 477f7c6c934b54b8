use Rattle.std.proofs.Common.{refl, ◌∙◌}
use Rattle.mvm_isolate.specs.Numbered.{look_of}
use Rattle.mvm_isolate.proofs.Keeping.{grows_then}
use Rattle.mvm_current.proofs.Growth.{keys_grow}
use Rattle.mvm_object.specs.Coming.{point_of}
use Rattle.mvm_invoke.specs.Calls.{called}
use Rattle.mvm_invoke.proofs.Calling.{leaves_at, on_err_then}
use Rattle.mvm_invoke.proofs.Invoking.{special_leaves}
use Rattle.mvm_invoke.proofs.Telling.{limits_grow, told_grows}
use Rattle.mvm_invoke.proofs.special_calls.invoke_special.Goals as goal

pub called_at-requires-clause-keys : goal.called_at-requires-clause-keys
called_at-requires-clause-keys g c = keys_grow c.args.isolate.now c.special_method.new.isolate c.args.stack.now c.special_method.ensures.grows c.requires.keys

pub called_at-requires-clause-limits : goal.called_at-requires-clause-limits
called_at-requires-clause-limits g c = limits_grow c.args.isolate.now c.special_method.new.isolate c.args.stack.now c.special_method.ensures.grows c.requires.limits

pub returns-clause-does : goal.returns-clause-does
returns-clause-does g c context told =
    let t = c.in_ok-method.ensures.ok in
    let m = c.in_ok-selected.ensures.ok t.member t.is_member in
    special_leaves context (look_of c.args.isolate.now) c.args.index c.args.next (point_of c.args.isolate.now c.args.stack.now) c.in_ok-method.method c.in_ok-selected.selected t c.in_ok-received.received m c.called_at.result c.called_at.new.isolate c.called_at.new.stack
    told.look (c.in_ok-received.ensures.answer t.member t.is_member)
    (leaves_at (called context m.member c.in_ok-received.received.passes c.args.next) c.called_at.result c.args.isolate.now c.special_method.new.isolate c.called_at.new.isolate c.args.stack.now c.called_at.new.stack c.special_method.ensures.grows c.requires.keys c.special_method.ensures.same
    (c.called_at.ensures.does context m.member (told_grows context c.args.isolate.now c.special_method.new.isolate c.args.told told c.special_method.ensures.grows c.special_method.ensures.links) m.is_member))

pub returns-clause-err : goal.returns-clause-err
returns-clause-err g c = on_err_then c.called_at.result _ _ c.called_at.ensures.err (λ e. e ∙ c.special_method.ensures.same)

pub called_at-requires-clause-named : goal.called_at-requires-clause-named
called_at-requires-clause-named g c =
    let t = c.in_ok-method.ensures.ok in
    let m = c.in_ok-selected.ensures.ok t.member t.is_member in rw m.is_member refl

pub returns-in_err-selected-clause-keys : goal.returns-in_err-selected-clause-keys
returns-in_err-selected-clause-keys g c = keys_grow c.args.isolate.now c.special_method.new.isolate c.args.stack.now c.special_method.ensures.grows c.requires.keys

pub returns-clause-grows : goal.returns-clause-grows
returns-clause-grows g c = grows_then c.args.isolate.now c.special_method.new.isolate c.called_at.new.isolate c.special_method.ensures.grows c.called_at.ensures.grows
