use Rattle.mvm_check.proofs.Countable.{countable}
use Rattle.mvm_check.proofs.checking.check_parts.Goals as goal

pub of-requires : goal.of-requires
of-requires c = (countable c.args.parts.now c.requires).texts

pub all_methods-requires-clause-few : goal.all_methods-requires-clause-few
all_methods-requires-clause-few c = (countable c.args.parts.now c.requires).methods

pub all_methods-requires-clause-rows : goal.all_methods-requires-clause-rows
all_methods-requires-clause-rows c = (countable c.args.parts.now c.requires).rows

pub all_methods-requires-clause-bytes : goal.all_methods-requires-clause-bytes
all_methods-requires-clause-bytes c = (countable c.args.parts.now c.requires).bytes
