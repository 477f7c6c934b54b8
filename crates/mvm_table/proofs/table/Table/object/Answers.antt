use Rattle.std.proofs.Common.{◌∙◌, ap}
use Rattle.mvm_table.specs.Contents.{is_shelved}
use Rattle.mvm_table.proofs.table.Table.object.Goals as goal

pub returns-clause-shelf : goal.returns-clause-shelf
returns-clause-shelf g c = λ e. c.class.ensures.shelf (ap (is_shelved c.args.self.now c.args.set) c.in_ok-name.ensures ∙ e)
