use Rattle.std.proofs.Common.{refl}
use Rattle.mvm_isolate.specs.Numbered.{look_of}
use Rattle.mvm_object.specs.Coming.{point_of}
use Rattle.mvm_invoke.proofs.Invoking.{interface_leaves}
use Rattle.mvm_invoke.proofs.virtual_calls.invoke_interface.Goals as goal

pub returns-clause-does : goal.returns-clause-does
returns-clause-does g c context told =
    let t = c.in_ok-method.ensures.ok in
    let m = c.in_ok-selected.ensures.ok in
    interface_leaves context (look_of c.args.isolate.now) c.args.index c.args.next (point_of c.args.isolate.now c.args.stack.now) c.in_ok-method.method c.in_ok-selected.selected t c.in_ok-received.received m c.called_at.result c.called_at.new.isolate c.called_at.new.stack
    told.look (c.in_ok-not_private.ensures.ok t.member t.is_member) (c.in_ok-received.ensures.answer t.member t.is_member) (c.called_at.ensures.does context m.member told m.is_member)

pub called_at-requires-clause-named : goal.called_at-requires-clause-named
called_at-requires-clause-named g c =
    let m = c.in_ok-selected.ensures.ok in rw m.is_member refl
