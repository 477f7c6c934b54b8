use Rattle.mvm_history.proofs.Stamping.{stamped_rising, stamped_pushed, stamped_front, last_pushed}
use Rattle.mvm_history.proofs.laws.stamp_law.Goals as goal

pub returns-clause-rising : goal.returns-clause-rising
returns-clause-rising c = stamped_rising

pub returns-clause-pushed : goal.returns-clause-pushed
returns-clause-pushed c = stamped_pushed

pub returns-clause-front : goal.returns-clause-front
returns-clause-front c = stamped_front

pub returns-clause-last : goal.returns-clause-last
returns-clause-last c = last_pushed 0
