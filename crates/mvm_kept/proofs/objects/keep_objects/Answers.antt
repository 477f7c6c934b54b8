use Rattle.std.proofs.Common.{sym}
use Rattle.mvm_isolate.specs.Numbered.{look_of}
use Rattle.mvm_current.specs.Entries.{entry_at}
use Rattle.mvm_current.specs.Keys.{top_named}
use Rattle.mvm_kept.specs.Kept.{class_entry}
use Rattle.mvm_kept.proofs.Growing.{class_by, kept_grows, objects_kept}
use Rattle.mvm_kept.proofs.objects.keep_objects.Goals as goal

pub returns-in-Some-objects_at-clause-kept : goal.returns-in-Some-objects_at-clause-kept
returns-in-Some-objects_at-clause-kept g c =
    c.keep.ensures c.objects_at.new.isolate (kept_grows c.args.isolate.now c.objects_at.new.isolate c.args.kept.now c.objects_at.ensures.grows c.requires.kept)
    (objects_kept c.args.isolate.now c.objects_at.new.isolate c.args.stack.now c.in-Some.key c.args.index c.in-Some-objects_at.at c.objects_at.ensures.grows (sym c.in-Some.ensures)
    c.requires.method c.requires.keys (c.in-Some-objects_at.ensures.at (class_entry (look_of c.args.isolate.now) c.args.index (top_named c.args.isolate.now c.args.stack.now))
    (class_by (entry_at (look_of c.args.isolate.now) c.args.index (top_named c.args.isolate.now c.args.stack.now)) c.in-Ok.found c.in-Ok-class_of_objects.class.now c.in-Ok.ensures.answer c.in-Ok-class_of_objects.ensures)))

pub returns-in-Ok-class_of_objects-clause-kept : goal.returns-in-Ok-class_of_objects-clause-kept
returns-in-Ok-class_of_objects-clause-kept g c = kept_grows c.args.isolate.now c.objects_at.new.isolate c.args.kept.now c.objects_at.ensures.grows c.requires.kept
