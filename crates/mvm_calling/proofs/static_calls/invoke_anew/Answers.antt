use Rattle.std.proofs.Common.{◌≡◌, Some, subst, sym, ◌∙◌}
use Rattle.mvm_member.specs.Members.{MemberName}
use Rattle.mvm_isolate.specs.Numbered.{look_of}
use Rattle.mvm_isolate.proofs.Keeping.{grows_then}
use Rattle.mvm_current.proofs.Growth.{keys_grow}
use Rattle.mvm_object.specs.Coming.{point_of}
use Rattle.mvm_object.specs.Going.{Point}
use Rattle.mvm_object.specs.Entries.{once_initialised}
use Rattle.mvm_invoke.specs.Calls.{static_called}
use Rattle.mvm_invoke.specs.Leaving.{Leaves}
use Rattle.mvm_invoke.proofs.Calling.{leaves_at, on_err_then}
use Rattle.mvm_invoke.proofs.Invoking.{static_leaves}
use Rattle.mvm_invoke.proofs.Telling.{told_grows}
use Rattle.mvm_calling.specs.KeptCalls.{IsTarget}
use Rattle.mvm_calling.proofs.Known.{calls_grow, is_target}
use Rattle.mvm_calling.proofs.static_calls.invoke_anew.Goals as goal

pub keep_once-requires-clause-target : goal.keep_once-requires-clause-target
keep_once-requires-clause-target g c key e =
    let t = c.in_ok-method.ensures.ok in
    let k : Some c.in-Some.member ≡ Some t.member = c.in-Some.ensures ∙ t.is_member in
    let same : t.member ≡ c.in-Some.member = cc in
    subst (λ (m : MemberName). IsTarget c.args.isolate.now key.mirror c.args.index m) same (is_target c.args.isolate.now c.args.stack.now key c.args.index c.in_ok-method.method e (rw e at c.requires.method) c.requires.keys t)

pub returns-clause-does : goal.returns-clause-does
returns-clause-does g c context told =
    let t = c.in_ok-method.ensures.ok in
    let k : Some c.in-Some.member ≡ Some t.member = c.in-Some.ensures ∙ t.is_member in
    let e : c.in-Some.member ≡ t.member = cc in
    static_leaves context (look_of c.args.isolate.now) c.args.index c.args.caller.next (point_of c.args.isolate.now c.args.stack.now) c.in_ok-method.method t c.call_static.result c.call_static.new.isolate c.call_static.new.stack told.look
    (subst (λ (m : MemberName). Leaves c.call_static.result (once_initialised context m.class (point_of c.args.isolate.now c.args.stack.now) (static_called context m c.args.caller.next)) c.call_static.new.isolate c.call_static.new.stack) e
    (leaves_at (λ (p : Point). once_initialised context c.in-Some.member.class p (static_called context c.in-Some.member c.args.caller.next)) c.call_static.result c.args.isolate.now c.keep_once.new.isolate c.call_static.new.isolate c.args.stack.now c.call_static.new.stack
    c.keep_once.ensures.grows c.requires.keys c.keep_once.ensures.same
    (c.call_static.ensures.does context (told_grows context c.args.isolate.now c.keep_once.new.isolate c.args.caller.told told c.keep_once.ensures.grows c.keep_once.ensures.links))))

pub returns-clause-err : goal.returns-clause-err
returns-clause-err g c = on_err_then c.call_static.result _ _ c.call_static.ensures.err (λ e. e ∙ c.keep_once.ensures.same)

pub call_static-requires-clause-keys : goal.call_static-requires-clause-keys
call_static-requires-clause-keys g c = keys_grow c.args.isolate.now c.keep_once.new.isolate c.args.stack.now c.keep_once.ensures.grows c.requires.keys

pub returns-clause-grows : goal.returns-clause-grows
returns-clause-grows g c = grows_then c.args.isolate.now c.keep_once.new.isolate c.call_static.new.isolate c.keep_once.ensures.grows c.call_static.ensures.grows

pub returns-clause-calls : goal.returns-clause-calls
returns-clause-calls g c = calls_grow c.keep_once.new.isolate c.call_static.new.isolate c.keep_once.new.calls c.call_static.ensures.grows c.keep_once.ensures.calls
