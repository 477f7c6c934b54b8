use Rattle.std.proofs.Common.{◌∙◌}
use Rattle.mvm_constants.proofs.Stored.{found_is}
use Rattle.mvm_constants.proofs.rows.found.Goals as goal

pub returns : goal.returns
returns c = c.copied.ensures ∙ c.get.ensures.value ∙ found_is c.args.key c.args.rows.now
