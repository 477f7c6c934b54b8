use Rattle.std.proofs.Common.{◌≡◌, Some, refl, subst, sym, ◌∙◌}
use Rattle.mvm_isolate.specs.Numbered.{look_of, named}
use Rattle.mvm_isolate.proofs.Keeping.{grows_then}
use Rattle.mvm_current.proofs.Growth.{keys_grow}
use Rattle.mvm_object.specs.Coming.{point_of}
use Rattle.mvm_object.specs.Going.{Point}
use Rattle.mvm_invoke.specs.Calls.{called}
use Rattle.mvm_invoke.proofs.Calling.{leaves_at, on_err_then}
use Rattle.mvm_invoke.proofs.Invoking.{special_leaves}
use Rattle.mvm_invoke.proofs.Telling.{limits_grow, told_grows}
use Rattle.mvm_calling.proofs.SpecialSelecting.{selects_of, special_calls_grow}
use Rattle.mvm_calling.proofs.special_calls.invoke_special_anew.Goals as goal

pub keep_special_selected-requires-clause-keys : goal.keep_special_selected-requires-clause-keys
keep_special_selected-requires-clause-keys g c = keys_grow c.args.isolate.now c.special_method.new.isolate c.args.stack.now c.special_method.ensures.grows c.requires.keys

pub keep_special_selected-requires-clause-calls : goal.keep_special_selected-requires-clause-calls
keep_special_selected-requires-clause-calls g c = special_calls_grow c.args.isolate.now c.special_method.new.isolate c.args.calls.now c.special_method.ensures.grows c.requires.calls

pub keep_special_selected-requires-clause-selects : goal.keep_special_selected-requires-clause-selects
keep_special_selected-requires-clause-selects g c key mirror resolved member e a b of is =
    selects_of c.args.isolate.now c.special_method.new.isolate c.args.stack.now key c.args.index mirror c.in_ok-received.received.receiver c.in_ok-method.method c.in_ok-selected.selected resolved member c.special_method.ensures.grows c.requires.keys e (rw e at c.requires.method)
    c.in_ok-method.ensures.ok a c.in_ok-selected.ensures.ok b of is

pub returns-clause-does : goal.returns-clause-does
returns-clause-does g c context told =
    let t = c.in_ok-method.ensures.ok in
    let m = c.in_ok-selected.ensures.ok t.member t.is_member in
    let grows = grows_then c.args.isolate.now c.special_method.new.isolate c.keep_special_selected.new.isolate c.special_method.ensures.grows c.keep_special_selected.ensures.grows in
    special_leaves context (look_of c.args.isolate.now) c.args.index c.args.caller.next (point_of c.args.isolate.now c.args.stack.now) c.in_ok-method.method c.in_ok-selected.selected t c.in_ok-received.received m c.called_at.result c.called_at.new.isolate c.called_at.new.stack
    told.look (c.in_ok-received.ensures.answer t.member t.is_member)
    (leaves_at (λ (p : Point). called context m.member c.in_ok-received.received.passes c.args.caller.next p) c.called_at.result c.args.isolate.now c.keep_special_selected.new.isolate c.called_at.new.isolate c.args.stack.now c.called_at.new.stack
    grows c.requires.keys (c.keep_special_selected.ensures.same ∙ c.special_method.ensures.same)
    (c.called_at.ensures.does context m.member (told_grows context c.args.isolate.now c.keep_special_selected.new.isolate c.args.caller.told told grows (c.keep_special_selected.ensures.links ∙ c.special_method.ensures.links)) m.is_member))

pub called_at-requires-clause-named : goal.called_at-requires-clause-named
called_at-requires-clause-named g c =
    let t = c.in_ok-method.ensures.ok in
    let m = c.in_ok-selected.ensures.ok t.member t.is_member in rw m.is_member refl

pub called_at-requires-clause-keys : goal.called_at-requires-clause-keys
called_at-requires-clause-keys g c = keys_grow c.special_method.new.isolate c.keep_special_selected.new.isolate c.args.stack.now c.keep_special_selected.ensures.grows (keys_grow c.args.isolate.now c.special_method.new.isolate c.args.stack.now c.special_method.ensures.grows c.requires.keys)

pub called_at-requires-clause-limits : goal.called_at-requires-clause-limits
called_at-requires-clause-limits g c = limits_grow c.special_method.new.isolate c.keep_special_selected.new.isolate c.args.stack.now c.keep_special_selected.ensures.grows (limits_grow c.args.isolate.now c.special_method.new.isolate c.args.stack.now c.special_method.ensures.grows c.requires.limits)

pub returns-in_err-selected-clause-keys : goal.returns-in_err-selected-clause-keys
returns-in_err-selected-clause-keys g c = keys_grow c.args.isolate.now c.special_method.new.isolate c.args.stack.now c.special_method.ensures.grows c.requires.keys

pub returns-in_err-selected-clause-calls : goal.returns-in_err-selected-clause-calls
returns-in_err-selected-clause-calls g c = special_calls_grow c.args.isolate.now c.special_method.new.isolate c.args.calls.now c.special_method.ensures.grows c.requires.calls

pub returns-clause-grows : goal.returns-clause-grows
returns-clause-grows g c = grows_then c.args.isolate.now c.special_method.new.isolate c.called_at.new.isolate c.special_method.ensures.grows (grows_then c.special_method.new.isolate c.keep_special_selected.new.isolate c.called_at.new.isolate c.keep_special_selected.ensures.grows c.called_at.ensures.grows)

pub returns-clause-calls : goal.returns-clause-calls
returns-clause-calls g c = special_calls_grow c.keep_special_selected.new.isolate c.called_at.new.isolate c.keep_special_selected.new.calls c.called_at.ensures.grows c.keep_special_selected.ensures.calls

pub returns-clause-err : goal.returns-clause-err
returns-clause-err g c = on_err_then c.called_at.result _ _ c.called_at.ensures.err (λ e. e ∙ c.keep_special_selected.ensures.same ∙ c.special_method.ensures.same)
