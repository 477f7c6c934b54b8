use Rattle.mvm_current.proofs.entries.field_entry.Goals as goal

pub returns-in-Ok-clause-loaded : goal.returns-in-Ok-clause-loaded
returns-in-Ok-clause-loaded g c = c.field_in.ensures.loaded c.args.isolate.now.files c.in-Ok.ensures.loaded
