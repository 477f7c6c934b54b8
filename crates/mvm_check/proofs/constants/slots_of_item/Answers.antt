use Rattle.mvm_check.proofs.Countable.{few_units}
use Rattle.mvm_check.proofs.constants.slots_of_item.Goals as goal

pub parse_method-requires : goal.parse_method-requires
parse_method-requires c = few_units c.in-Utf8.text (rw c.in-Utf8.is at c.requires)
