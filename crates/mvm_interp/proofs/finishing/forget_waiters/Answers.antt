use Rattle.std.proofs.Common.{◌∙◌, sym}
use Rattle.std.specs.Prelude.{true, false, is_some}
use Rattle.mvm_isolate.proofs.Keeping.{grows_then}
use Rattle.mvm_isolate.specs.Numbered.{named}
use Rattle.mvm_interp.specs.Finishing.{others}
use Rattle.mvm_interp.proofs.Waking.{others_after, others_done, fewer_some}
use Rattle.mvm_interp.proofs.finishing.forget_waiters.Goals as goal

pub waiters-smaller : goal.waiters-smaller
waiters-smaller c =
    fewer_some c.args.object (named c.waiters.isolate) (named c.notify.new.self) c.notify.result c.notify.ensures.thread c.notify.ensures.others (sym c.is_some.ensures ∙ c.waiters-test.true)

pub waiters-preserved : goal.waiters-preserved
waiters-preserved c = record {
  rest = others_after c.args.object (named c.waiters.isolate) (named c.notify.new.self) c.notify.ensures.others ∙ c.waiters.invariant.rest;
  links = c.notify.ensures.links ∙ c.waiters.invariant.links;
  grows = grows_then c.args.isolate.now c.waiters.isolate c.notify.new.self c.waiters.invariant.grows c.notify.ensures.grows;
}

pub returns-clause-named : goal.returns-clause-named
returns-clause-named c =
    others_done c.args.object (named c.waiters.isolate) (named c.notify.new.self) c.notify.result c.notify.ensures.thread c.notify.ensures.others (sym c.is_some.ensures ∙ c.waiters-test.false)
    ∙ c.waiters.invariant.rest
