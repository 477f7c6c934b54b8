use Rattle.std.proofs.Common.{◌∙◌, sym, ap}
use Rattle.mvm_isolate.specs.Numbered.{Numbered}
use Rattle.mvm_thread.specs.State.{State}
use Rattle.mvm_thread.specs.Step.{step}
use Rattle.mvm_interp.proofs.Stepping.{step_is}
use Rattle.mvm_interp.proofs.task_state.TaskState.step_within.Goals as goal

pub returns-clause-does : goal.returns-clause-does
returns-clause-does g c =
    let t = c.read_uncaught.new.self in
    let isolate = c.read_uncaught.ensures.isolate in
    let files = c.requires.files ∙ sym (ap (λ (n : Numbered). n.files) isolate) in
    step_is c.args.table.now.files t c.attempted.new.self _ c.args.thread c.in_ok-after.after files
    (λ k. c.requires.more (sym (ap (λ (s : State). s.steps) c.read_uncaught.ensures.names) ∙ k ∙ ap (λ (n : Numbered). n.env.launch.limits.steps) isolate))
    c.in_ok-after.ensures.does c.finish.ensures.names
    ∙ ap (λ (s : State). step c.args.table.now.files s c.args.thread) c.read_uncaught.ensures.names
