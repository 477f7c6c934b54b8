use Rattle.std.proofs.Common.{subst, sym}
use Rattle.std.specs.Prelude.{List}
use Rattle.mvm_interp.proofs.Waking.{all_keep}
use Rattle.mvm_interp.specs.Sound.{IsTask}
use Rattle.mvm_interp.specs.declared.row.ThreadRow.{ThreadRow}
use Rattle.mvm_interp.proofs.rows.wake_threads.Goals as goal

pub returns-clause-kept : goal.returns-clause-kept
returns-clause-kept c = λ n count ended steps is.
    subst (λ (rows : List ThreadRow). IsTask n rows count ended steps) (sym c.wake_all.ensures) (all_keep n c.args.rows.now count ended steps c.args.object is)
