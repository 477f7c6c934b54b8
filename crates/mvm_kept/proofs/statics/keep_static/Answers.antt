use Rattle.std.proofs.Common.{true, sym}
use Rattle.mvm_isolate.specs.Numbered.{look_of}
use Rattle.mvm_current.specs.Entries.{field_entry}
use Rattle.mvm_current.specs.Keys.{top_named}
use Rattle.mvm_kept.proofs.Growing.{kept_grows, static_kept}
use Rattle.mvm_kept.proofs.statics.keep_static.Goals as goal

pub returns-in-Some-static_at-clause-kept : goal.returns-in-Some-static_at-clause-kept
returns-in-Some-static_at-clause-kept g c =
    c.keep.ensures c.static_at.new.isolate (kept_grows c.args.isolate.now c.static_at.new.isolate c.args.kept.now c.static_at.ensures.grows c.requires.kept)
    (static_kept c.args.isolate.now c.static_at.new.isolate c.args.stack.now c.in-Some.key c.args.index c.in-Some-static_at.at c.static_at.ensures.grows (sym c.in-Some.ensures)
    c.requires.method c.requires.keys (c.in-Some-static_at.ensures.at (field_entry (look_of c.args.isolate.now) true c.args.index (top_named c.args.isolate.now c.args.stack.now)) c.in-Ok.ensures.ok))

pub returns-in_default-static_at-clause-kept : goal.returns-in_default-static_at-clause-kept
returns-in_default-static_at-clause-kept g c = kept_grows c.args.isolate.now c.static_at.new.isolate c.args.kept.now c.static_at.ensures.grows c.requires.kept
