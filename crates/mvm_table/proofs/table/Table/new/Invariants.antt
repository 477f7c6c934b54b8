-- the steps are counted in the ledger that was made for them
use Rattle.mvm_table.proofs.table.Table.new.Given as goal

abbrev pub ghosts-with_builtins : goal.ghosts-with_builtins
ghosts-with_builtins a = record { name = a.blank.name; parts = a.blank.parts }
