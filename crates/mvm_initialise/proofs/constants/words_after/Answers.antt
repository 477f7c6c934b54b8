use Rattle.std.proofs.Common.{ℕ, List, Option, IfOk, subst}
use Rattle.mvm_isolate.specs.Numbered.{named}
use Rattle.mvm_initialise.specs.Constants.{is_known, Counted}
use Rattle.mvm_initialise.proofs.Wanted.{not_counted}
use Rattle.mvm_initialise.proofs.constants.words_after.Goals as goal

pub returns-in-None : goal.returns-in-None
returns-in-None c =
    subst (λ (f : Option (List ℕ)). Counted (named c.args.isolate.now).heap (is_known c.args.met.now (named c.args.isolate.now).heap) (is_known c.args.met.now (named c.args.isolate.now).heap) c.args.sum c.args.sum f)
    c.in-None.ensures (not_counted (named c.args.isolate.now).heap (is_known c.args.met.now (named c.args.isolate.now).heap) c.args.sum c.ranges.sum.fits)
