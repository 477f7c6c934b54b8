use Rattle.std.proofs.Common.{◌∙◌, ℕ, List, IfOk, sym, subst}
use Rattle.mvm_history.specs.declared.launch.Launch.{Launch}
use Rattle.mvm_current.specs.Keys.{IsStackOf}
use Rattle.mvm_current.proofs.Growth.{keys_grow}
use Rattle.mvm_isolate.proofs.Keeping.{grows_then}
use Rattle.mvm_object.specs.Beginning.{IsBegun}
use Rattle.mvm_object.proofs.Initialising.{initialised_goes, is_for_grows, on_err_then}
use Rattle.mvm_object.proofs.Points.{found_after}
use Rattle.mvm_object.proofs.initialised.once_initialised.Goals as goal

pub once_begun-requires-clause-keys : goal.once_begun-requires-clause-keys
once_begun-requires-clause-keys g c = keys_grow c.args.isolate.now c.load.new.self c.args.stack.now c.load.ensures.grows c.requires.keys

pub once_begun-requires-clause-limits : goal.once_begun-requires-clause-limits
once_begun-requires-clause-limits g c = subst (λ (launch : Launch). IsStackOf launch.limits c.args.stack.now) (sym c.load.ensures.grows.launch) c.requires.limits

pub returns-clause-does : goal.returns-clause-does
returns-clause-does g c = λ context go is.
    initialised_goes context c.args.isolate.now c.load.new.self c.once_begun.new.isolate c.args.thread c.in_ok-mirror.mirror c.args.class.now c.class-class.result.now c.args.stack.now c.once_begun.new.stack go c.once_begun.result is
    c.load.ensures.grows c.requires.keys c.load.ensures.same c.in_ok-mirror.ensures.name
    (found_after c.args.isolate.now c.load.new.self c.in_ok-mirror.mirror c.args.class.now c.class-class.result.now c.load.ensures.grows c.in_ok-mirror.ensures.name c.class-class.ensures.value)
    (c.once_begun.ensures.does context go (is_for_grows context c.args.isolate.now c.load.new.self c.args.thread c.load.ensures.grows is))

pub returns-clause-begun : goal.returns-clause-begun
returns-clause-begun g c =
    subst (λ (name : List ℕ). IfOk c.once_begun.result (λ once. IsBegun name c.once_begun.new.isolate c.args.stack.now c.once_begun.new.stack once)) c.in_ok-mirror.ensures.name c.once_begun.ensures.begun

pub returns-clause-same : goal.returns-clause-same
returns-clause-same g c = λ number e. c.once_begun.ensures.same number e ∙ c.load.ensures.same

pub returns-clause-err : goal.returns-clause-err
returns-clause-err g c = on_err_then c.once_begun.result _ _ c.once_begun.ensures.err (λ same. same ∙ c.load.ensures.same)

pub returns-clause-grows : goal.returns-clause-grows
returns-clause-grows g c = grows_then c.args.isolate.now c.load.new.self c.once_begun.new.isolate c.load.ensures.grows c.once_begun.ensures.grows
