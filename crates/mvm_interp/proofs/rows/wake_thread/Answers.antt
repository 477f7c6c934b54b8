use Rattle.std.proofs.Common.{subst, sym}
use Rattle.std.specs.Prelude.{List}
use Rattle.mvm_interp.proofs.Waking.{woken_keeps}
use Rattle.mvm_interp.specs.Sound.{IsTask}
use Rattle.mvm_interp.specs.declared.row.ThreadRow.{ThreadRow}
use Rattle.mvm_interp.proofs.rows.wake_thread.Goals as goal

pub returns-then-thread-count-clause-kept : goal.returns-then-thread-count-clause-kept
returns-then-thread-count-clause-kept c = λ n ended steps is.
    subst (λ (rows : List ThreadRow). IsTask n rows c.args.count ended steps) (sym c.wake.ensures) (woken_keeps n c.args.rows.now c.args.count ended steps c.args.thread is c.if-thread-count.true)
