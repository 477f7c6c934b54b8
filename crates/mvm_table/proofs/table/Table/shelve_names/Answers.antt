use Rattle.std.proofs.Common.{arith}
use Rattle.mvm_table.proofs.BuiltIns.{all_shelved}
use Rattle.mvm_table.proofs.table.Table.shelve_names.Goals as goal

pub returns-clause-shelved : goal.returns-clause-shelved
returns-clause-shelved g c =
    all_shelved c.loop-i.self c.args.set c.args.names.now (λ k d w. c.loop-i.invariant.shelved k d (omega (arith, w, c.loop-i-test.false)))
