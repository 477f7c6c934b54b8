use Rattle.mvm_calling.proofs.Selecting.{virtual_calls_grow}
use Rattle.mvm_calling.proofs.virtual_keeping.keep_virtual.Goals as goal

pub returns-in-Some-clause-calls : goal.returns-in-Some-clause-calls
returns-in-Some-clause-calls g c =
    c.keep.ensures c.load.new.self (virtual_calls_grow c.args.isolate.now c.load.new.self c.args.calls.now c.load.ensures.grows c.requires.calls) c.in-Some.ensures

pub returns-in-None-clause-calls : goal.returns-in-None-clause-calls
returns-in-None-clause-calls g c = virtual_calls_grow c.args.isolate.now c.load.new.self c.args.calls.now c.load.ensures.grows c.requires.calls

pub returns-in-Err-clause-calls : goal.returns-in-Err-clause-calls
returns-in-Err-clause-calls g c = virtual_calls_grow c.args.isolate.now c.load.new.self c.args.calls.now c.load.ensures.grows c.requires.calls
