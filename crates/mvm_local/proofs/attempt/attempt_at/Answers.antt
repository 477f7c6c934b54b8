use Rattle.std.proofs.Common.{◌∙◌, sym}
use Rattle.mvm_local.specs.Body.{body_of}
use Rattle.mvm_local.proofs.Decodings.{operated_is, load_from_is, store_to_is}
use Rattle.mvm_local.proofs.attempt.attempt_at.Goals as goal

pub returns-in-Operate-clause-does : goal.returns-in-Operate-clause-does
returns-in-Operate-clause-does c = rw (operated_is c.args.code.now c.args.pc c.args.op c.in-Operate.operation (body_of c.args.stack.now) c.requires.pc c.requires.op (sym c.action_of.ensures ∙ c.in-Operate.is)) c.operated.ensures.does

pub returns-in-LoadFrom-clause-does : goal.returns-in-LoadFrom-clause-does
returns-in-LoadFrom-clause-does c = rw (load_from_is c.args.code.now c.args.pc c.args.op c.in-LoadFrom.local c.in-LoadFrom.kind (body_of c.args.stack.now) c.requires.pc c.requires.op (sym c.action_of.ensures ∙ c.in-LoadFrom.is), ← c.from.ensures) c.load.ensures.does

pub returns-in-StoreTo-clause-does : goal.returns-in-StoreTo-clause-does
returns-in-StoreTo-clause-does c = rw (store_to_is c.args.code.now c.args.pc c.args.op c.in-StoreTo.local c.in-StoreTo.kind (body_of c.args.stack.now) c.requires.pc c.requires.op (sym c.action_of.ensures ∙ c.in-StoreTo.is), ← c.from-in-StoreTo.ensures) c.store.ensures.does
