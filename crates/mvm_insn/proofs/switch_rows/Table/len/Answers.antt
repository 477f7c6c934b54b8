use Rattle.std.proofs.Common.{subst}
use Rattle.mvm_insn.specs.Rows.{KeysRise}
use Rattle.mvm_insn.proofs.Keys.{table-rise}
use Rattle.mvm_insn.proofs.switch_rows.Table.len.Goals as goal

pub returns-clause-rising : goal.returns-clause-rising
returns-clause-rising c = subst KeysRise c.self.view_is (table-rise c.self.inside.count c.self.inside.at c.self.inside.low c.self.inside.text.now)
