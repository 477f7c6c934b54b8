use Rattle.mvm_table.proofs.BuiltIns.{stands_named}
use Rattle.mvm_table.proofs.Shelving.{on_done}
use Rattle.mvm_table.proofs.table.Table.shelve_named.Goals as goal

pub returns-in-Ok-clause-shelved : goal.returns-in-Ok-clause-shelved
returns-in-Ok-clause-shelved g c =
    on_done c.shelve_one.result c.shelve_one.ensures.shelved
    (λ s. stands_named c.shelve_one.new.self c.args.self.now.files c.args.set c.args.name.now c.in-Ok.class c.in-Ok.ensures.loads s)
