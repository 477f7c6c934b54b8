use Rattle.std.proofs.Common.{false, sym}
use Rattle.mvm_isolate.specs.Numbered.{look_of}
use Rattle.mvm_current.specs.Entries.{field_entry}
use Rattle.mvm_current.specs.Keys.{top_named}
use Rattle.mvm_kept.proofs.Growing.{kept_grows, instance_kept}
use Rattle.mvm_kept.proofs.fields.keep_instance.Goals as goal

pub returns-in-Some-instance_at-clause-kept : goal.returns-in-Some-instance_at-clause-kept
returns-in-Some-instance_at-clause-kept g c =
    c.keep.ensures c.instance_at.new.isolate (kept_grows c.args.isolate.now c.instance_at.new.isolate c.args.kept.now c.instance_at.ensures.grows c.requires.kept)
    (instance_kept c.args.isolate.now c.instance_at.new.isolate c.args.stack.now c.in-Some.key c.args.index c.in-Some-instance_at.at c.instance_at.ensures.grows (sym c.in-Some.ensures)
    c.requires.method c.requires.keys (c.in-Some-instance_at.ensures.at (field_entry (look_of c.args.isolate.now) false c.args.index (top_named c.args.isolate.now c.args.stack.now)) c.in-Ok.ensures.ok))

pub returns-in_default-instance_at-clause-kept : goal.returns-in_default-instance_at-clause-kept
returns-in_default-instance_at-clause-kept g c = kept_grows c.args.isolate.now c.instance_at.new.isolate c.args.kept.now c.instance_at.ensures.grows c.requires.kept
