use Rattle.mvm_arith.proofs.Meanings.{reduced_law, divided_law, floor_law, row_law, bitwise_law}
use Rattle.mvm_arith.proofs.laws.arithmetic_law.Goals as goal

pub returns-clause-reduced : goal.returns-clause-reduced
returns-clause-reduced c = reduced_law

pub returns-clause-divided : goal.returns-clause-divided
returns-clause-divided c = divided_law

pub returns-clause-floor : goal.returns-clause-floor
returns-clause-floor c = floor_law

pub returns-clause-row : goal.returns-clause-row
returns-clause-row c = row_law

pub returns-clause-bitwise : goal.returns-clause-bitwise
returns-clause-bitwise c = bitwise_law
