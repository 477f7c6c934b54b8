-- the steps are counted in the ledger that was made for them
use Rattle.mvm_classes.proofs.question.class_of.Given as goal

abbrev pub ghosts-class_counted : goal.ghosts-class_counted
ghosts-class_counted a = record { name = a.blank.name; parts = a.blank.parts }
