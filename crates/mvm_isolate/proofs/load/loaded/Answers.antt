use Rattle.mvm_table.specs.Loads.{class_in}
use Rattle.mvm_isolate.proofs.LookUps.{failed_up}
use Rattle.mvm_isolate.proofs.load.loaded.Goals as goal

pub returns-in-Err-clause-fault : goal.returns-in-Err-clause-fault
returns-in-Err-clause-fault g c = failed_up (class_in c.args.table.now.files c.args.set c.args.name.now) c.in-Err.fault c.into.result c.in-Err.ensures.fault c.into.ensures
