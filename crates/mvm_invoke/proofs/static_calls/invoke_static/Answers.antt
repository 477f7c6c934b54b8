use Rattle.std.proofs.Common.{◌≡◌, Some, subst, ◌∙◌}
use Rattle.mvm_member.specs.Members.{MemberName}
use Rattle.mvm_isolate.specs.Numbered.{look_of}
use Rattle.mvm_object.specs.Coming.{point_of}
use Rattle.mvm_object.specs.Entries.{once_initialised}
use Rattle.mvm_invoke.specs.Calls.{static_called}
use Rattle.mvm_invoke.specs.Leaving.{Leaves}
use Rattle.mvm_invoke.proofs.Invoking.{static_leaves}
use Rattle.mvm_invoke.proofs.static_calls.invoke_static.Goals as goal

pub returns-clause-does : goal.returns-clause-does
returns-clause-does g c context told =
    let t = c.in_ok-method.ensures.ok in
    let k : Some c.in-Some.member ≡ Some t.member = c.in-Some.ensures ∙ t.is_member in
    let e : c.in-Some.member ≡ t.member = cc in
    static_leaves context (look_of c.args.isolate.now) c.args.index c.args.next (point_of c.args.isolate.now c.args.stack.now) c.in_ok-method.method t c.call_static.result c.call_static.new.isolate c.call_static.new.stack told.look
    (subst (λ (m : MemberName). Leaves c.call_static.result (once_initialised context m.class (point_of c.args.isolate.now c.args.stack.now) (static_called context m c.args.next)) c.call_static.new.isolate c.call_static.new.stack) e (c.call_static.ensures.does context told))
