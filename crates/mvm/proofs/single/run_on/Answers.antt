use Rattle.std.proofs.Common.{sym, ◌∙◌}
use Rattle.mvm_interp.specs.Names.{names}
use Rattle.mvm.proofs.Attempts.{goes_can, goes_none, later, none_made, one_made}
use Rattle.mvm.proofs.single.run_on.Goals as goal

pub attempts-init : goal.attempts-init
attempts-init g c = record {
  files = sym c.requires.files;
  made = none_made c.args.table.now.files (names c.args.task.now);
  within = c.requires.within;
}

pub step-requires-clause-running : goal.step-requires-clause-running
step-requires-clause-running g c = goes_none (names c.attempts.task) (sym c.goes_on.ensures ∙ c.attempts-test.true)

pub step-requires-clause-can : goal.step-requires-clause-can
step-requires-clause-can g c = goes_can (names c.attempts.task) (sym c.goes_on.ensures ∙ c.attempts-test.true)

pub attempts-smaller : goal.attempts-smaller
attempts-smaller g c =
    let goes = sym c.goes_on.ensures ∙ c.attempts-test.true in
    let s = names c.attempts.task in
    let next = later c.args.table.now.files s (names c.step.new.self) (goes_none s goes) c.attempts.invariant.within (goes_can s goes) c.in_ok-step.ensures.does in
    next.fewer

pub attempts-preserved : goal.attempts-preserved
attempts-preserved g c =
    let goes = sym c.goes_on.ensures ∙ c.attempts-test.true in
    let s = names c.attempts.task in
    let next = later c.args.table.now.files s (names c.step.new.self) (goes_none s goes) c.attempts.invariant.within (goes_can s goes) c.in_ok-step.ensures.does in
    record {
      files = c.step.ensures.files ∙ c.attempts.invariant.files;
      made = one_made c.args.table.now.files (names c.args.task.now) s (names c.step.new.self) c.attempts.invariant.made goes c.in_ok-step.ensures.does;
      within = next.within;
    }
