use Rattle.mvm_isolate.proofs.Keeping.{grows_then}
use Rattle.mvm_current.proofs.Growth.{keys_grow}
use Rattle.mvm_object.specs.Objects.{make_object}
use Rattle.mvm_kept.proofs.AtOnce.{comes_at, for_grows}
use Rattle.mvm_kept.proofs.Growing.{kept_grows}
use Rattle.mvm_kept.proofs.objects.make_object.Goals as goal

pub returns-clause-does : goal.returns-clause-does
returns-clause-does g c = λ context is.
    comes_at (make_object context c.args.index c.args.next) c.make_by.result c.args.isolate.now c.look_up.new.isolate c.make_by.new.isolate c.args.stack.now c.make_by.new.stack context.object
    c.look_up.ensures.grows c.requires.keys c.look_up.ensures.same
    (c.make_by.ensures.does context (for_grows c.args.isolate.now c.look_up.new.isolate context c.args.thread c.look_up.ensures.grows is))

pub returns-clause-kept : goal.returns-clause-kept
returns-clause-kept g c = kept_grows c.look_up.new.isolate c.make_by.new.isolate c.look_up.new.kept c.make_by.ensures.grows c.look_up.ensures.kept

pub make_by-requires-clause-keys : goal.make_by-requires-clause-keys
make_by-requires-clause-keys g c = keys_grow c.args.isolate.now c.look_up.new.isolate c.args.stack.now c.look_up.ensures.grows c.requires.keys

pub returns-clause-grows : goal.returns-clause-grows
returns-clause-grows g c = grows_then c.args.isolate.now c.look_up.new.isolate c.make_by.new.isolate c.look_up.ensures.grows c.make_by.ensures.grows
