use Rattle.mvm_current.proofs.entries.type_entry.Goals as goal

pub returns-in-Ok-clause-loaded : goal.returns-in-Ok-clause-loaded
returns-in-Ok-clause-loaded g c = c.type_in.ensures.loaded c.args.isolate.now.files c.in-Ok.ensures.loaded
