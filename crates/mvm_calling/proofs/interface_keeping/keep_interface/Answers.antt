use Rattle.mvm_calling.proofs.InterfaceSelecting.{interface_calls_grow}
use Rattle.mvm_calling.proofs.interface_keeping.keep_interface.Goals as goal

pub returns-in-Some-clause-calls : goal.returns-in-Some-clause-calls
returns-in-Some-clause-calls g c =
    c.keep.ensures c.load.new.self (interface_calls_grow c.args.isolate.now c.load.new.self c.args.calls.now c.load.ensures.grows c.requires.calls) c.in-Some.ensures

pub returns-in-None-clause-calls : goal.returns-in-None-clause-calls
returns-in-None-clause-calls g c = interface_calls_grow c.args.isolate.now c.load.new.self c.args.calls.now c.load.ensures.grows c.requires.calls

pub returns-in-Err-clause-calls : goal.returns-in-Err-clause-calls
returns-in-Err-clause-calls g c = interface_calls_grow c.args.isolate.now c.load.new.self c.args.calls.now c.load.ensures.grows c.requires.calls
