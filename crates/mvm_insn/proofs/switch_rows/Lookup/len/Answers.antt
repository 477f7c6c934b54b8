use Rattle.std.proofs.Common.{subst}
use Rattle.mvm_insn.specs.Rows.{KeysRise}
use Rattle.mvm_insn.proofs.Keys.{lookup-rise}
use Rattle.mvm_insn.proofs.switch_rows.Lookup.len.Goals as goal

pub returns-clause-rising : goal.returns-clause-rising
returns-clause-rising c = subst KeysRise c.self.view_is (lookup-rise c.self.inside.count c.self.inside.at c.self.inside.text.now c.self.invariant.1)
