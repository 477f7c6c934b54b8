use Rattle.std.proofs.Common.{◌≡◌, Some, refl, subst, sym, ◌∙◌}
use Rattle.mvm_member.specs.Members.{MemberName}
use Rattle.mvm_isolate.specs.Numbered.{look_of, named}
use Rattle.mvm_isolate.proofs.Keeping.{grows_then}
use Rattle.mvm_current.proofs.Growth.{keys_grow}
use Rattle.mvm_object.specs.Coming.{point_of}
use Rattle.mvm_object.specs.Going.{Point}
use Rattle.mvm_invoke.specs.Calls.{called}
use Rattle.mvm_invoke.proofs.Calling.{leaves_at, on_err_then}
use Rattle.mvm_invoke.proofs.Invoking.{virtual_leaves}
use Rattle.mvm_invoke.proofs.Telling.{told_grows}
use Rattle.mvm_calling.proofs.Selecting.{selects_of, virtual_calls_grow}
use Rattle.mvm_calling.proofs.virtual_calls.invoke_virtual_anew.Goals as goal

pub keep_selected-requires-clause-selects : goal.keep_selected-requires-clause-selects
keep_selected-requires-clause-selects g c key mirror resolved member e a b of is =
    selects_of c.args.isolate.now c.args.stack.now key c.args.index mirror c.in_ok-received.received.receiver c.in_ok-method.method c.in_ok-selected.selected resolved member e (rw e at c.requires.method) c.requires.keys
    c.in_ok-method.ensures.ok a c.in_ok-selected.ensures.ok b of is

pub returns-clause-does : goal.returns-clause-does
returns-clause-does g c context told =
    let t = c.in_ok-method.ensures.ok in
    let m = c.in_ok-selected.ensures.ok in
    virtual_leaves context (look_of c.args.isolate.now) c.args.index c.args.caller.next (point_of c.args.isolate.now c.args.stack.now) c.in_ok-method.method c.in_ok-selected.selected t c.in_ok-received.received m c.called_at.result c.called_at.new.isolate c.called_at.new.stack
    told.look (c.in_ok-received.ensures.answer t.member t.is_member)
    (leaves_at (λ (p : Point). called context m.member c.in_ok-received.received.passes c.args.caller.next p) c.called_at.result c.args.isolate.now c.keep_selected.new.isolate c.called_at.new.isolate c.args.stack.now c.called_at.new.stack
    c.keep_selected.ensures.grows c.requires.keys c.keep_selected.ensures.same
    (c.called_at.ensures.does context m.member (told_grows context c.args.isolate.now c.keep_selected.new.isolate c.args.caller.told told c.keep_selected.ensures.grows c.keep_selected.ensures.links) m.is_member))

pub called_at-requires-clause-named : goal.called_at-requires-clause-named
called_at-requires-clause-named g c =
    let m = c.in_ok-selected.ensures.ok in rw m.is_member refl

pub called_at-requires-clause-keys : goal.called_at-requires-clause-keys
called_at-requires-clause-keys g c = keys_grow c.args.isolate.now c.keep_selected.new.isolate c.args.stack.now c.keep_selected.ensures.grows c.requires.keys

pub returns-clause-grows : goal.returns-clause-grows
returns-clause-grows g c = grows_then c.args.isolate.now c.keep_selected.new.isolate c.called_at.new.isolate c.keep_selected.ensures.grows c.called_at.ensures.grows

pub returns-clause-calls : goal.returns-clause-calls
returns-clause-calls g c = virtual_calls_grow c.keep_selected.new.isolate c.called_at.new.isolate c.keep_selected.new.calls c.called_at.ensures.grows c.keep_selected.ensures.calls

pub returns-clause-err : goal.returns-clause-err
returns-clause-err g c = on_err_then c.called_at.result _ _ c.called_at.ensures.err (λ e. e ∙ c.keep_selected.ensures.same)
