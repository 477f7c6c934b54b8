use Rattle.mvm_thread.proofs.Keeping.{step_keeps}
use Rattle.mvm_thread.proofs.Threads.{step_leaves}
use Rattle.mvm_thread.proofs.laws.step_law.Goals as goal

pub returns-clause-bytes : goal.returns-clause-bytes
returns-clause-bytes c look s thread = (step_keeps look s thread).bytes

pub returns-clause-last : goal.returns-clause-last
returns-clause-last c look s thread = (step_keeps look s thread).last

pub returns-clause-launch : goal.returns-clause-launch
returns-clause-launch c look s thread = (step_keeps look s thread).launch

pub returns-clause-closed : goal.returns-clause-closed
returns-clause-closed c look s thread = (step_keeps look s thread).closed

pub returns-clause-few : goal.returns-clause-few
returns-clause-few c look s thread = (step_leaves look s thread).few

pub returns-clause-most : goal.returns-clause-most
returns-clause-most c look s thread = (step_leaves look s thread).most

pub returns-clause-others : goal.returns-clause-others
returns-clause-others c look s number other thread f e o = (step_leaves look s number).others other f thread e o
