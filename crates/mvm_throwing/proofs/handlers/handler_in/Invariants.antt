use Rattle.std.proofs.Common.{◌≡◌, drop}
use Rattle.std.specs.Option.{option_map}
use Rattle.mvm_isolate.specs.Numbered.{look_of, type_of}
use Rattle.mvm_throwing.specs.Throwing.{handler_in}
use Rattle.mvm_throwing.proofs.handlers.handler_in.Given as goal

abbrev pub invariant-loop-i : goal.invariant-loop-i
invariant-loop-i l =
    handler_in (look_of l.isolate) l.pool (option_map (type_of l.isolate) l.at) l.pc (drop l.i l.rows)
    ≡ handler_in (look_of l.isolate) l.pool (option_map (type_of l.isolate) l.at) l.pc l.rows
