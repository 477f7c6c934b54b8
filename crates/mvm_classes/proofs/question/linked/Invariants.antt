-- the steps are counted in the ledger that was made for them
use Rattle.mvm_classes.proofs.question.linked.Given as goal

abbrev pub ghosts-linked_counted : goal.ghosts-linked_counted
ghosts-linked_counted a = record { name = a.blank.name; parts = a.blank.parts }
