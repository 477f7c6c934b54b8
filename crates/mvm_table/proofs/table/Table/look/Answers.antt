use Rattle.std.proofs.Common.{◌∙◌, ap, sym}
use Rattle.mvm_table.proofs.Starting.{no_path, ok_class}
use Rattle.mvm_table.proofs.table.Table.look.Goals as goal

pub returns-in-Some-clause-known : goal.returns-in-Some-clause-known
returns-in-Some-clause-known c = no_path c.args.self.now.files c.args.set c.args.name.now ∙ c.in-Some.ensures.loaded ∙ ap ok_class (sym c.in_ok-share.ensures)
