use Rattle.std.proofs.Common.{◌∙◌}
use Rattle.mvm_mirror.proofs.SameShape.{under_is}
use Rattle.mvm_mirror.proofs.shape_numbers.number_under.Goals as goal

pub returns : goal.returns
returns c = c.copied.ensures ∙ c.get.ensures.value ∙ under_is c.args.key c.args.numbers.now
