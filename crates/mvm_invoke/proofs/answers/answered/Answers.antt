use Rattle.std.proofs.Common.{rules, Ok, ap, w32}
use mir.Val.{SFits}
use Rattle.std.proofs.lemmas.Int.{to_z-of_z}
use Rattle.mvm_invoke.proofs.answers.answered.Goals as goal

pub returns-in-Value-clause-does : goal.returns-in-Value-clause-does
returns-in-Value-clause-does c context told = rw c.in-Value.is (ap Ok (c.returning.ensures.does context c.args.isolate.now told.object))

pub returns-in-Act-clause-does : goal.returns-in-Act-clause-does
returns-in-Act-clause-does c context told = rw c.in-Act.is (ap Ok (c.acting.ensures.does context c.args.isolate.now told.object))

pub returns-in-Start-clause-does : goal.returns-in-Start-clause-does
returns-in-Start-clause-does c context told = rw c.in-Start.is (ap Ok (c.starting_thread.ensures.does context told))

pub returns-in-Join-clause-does : goal.returns-in-Join-clause-does
returns-in-Join-clause-does c context told = rw c.in-Join.is (ap Ok (c.joining_thread.ensures.does context c.args.isolate.now told))

pub returns-in-Wait-clause-does : goal.returns-in-Wait-clause-does
returns-in-Wait-clause-does c context told = rw c.in-Wait.is (ap Ok (c.waiting_on.ensures.does context told.object))

pub returns-in-Notify-clause-does : goal.returns-in-Notify-clause-does
returns-in-Notify-clause-does c context told = rw c.in-Notify.is (ap Ok (c.going.ensures.does context c.args.isolate.now told.object))

pub returns-in-Current-clause-does : goal.returns-in-Current-clause-does
returns-in-Current-clause-does c context told = rw c.in-Current.is (c.current_object.ensures.does context told)

pub returns-in-Exit-clause-does : goal.returns-in-Exit-clause-does
returns-in-Exit-clause-does c context told =
    let fits_status : SFits w32 c.in-Exit.status = search rules in
    rw (c.in-Exit.is, ← to_z-of_z w32 c.in-Exit.status fits_status) (ap Ok (c.leaving.ensures.does context c.args.isolate.now told.object))

pub returns-in-Limit-clause-does : goal.returns-in-Limit-clause-does
returns-in-Limit-clause-does c context told = rw c.in-Limit.is (ap Ok (c.leaving-in-Limit.ensures.does context c.args.isolate.now told.object))

pub returns-in-Value-clause-after : goal.returns-in-Value-clause-after
returns-in-Value-clause-after c = c.returning.ensures.after c.args.isolate.now

pub returns-in-Value-clause-begins : goal.returns-in-Value-clause-begins
returns-in-Value-clause-begins c = c.returning.ensures.begins c.args.caller.told.threads c.args.isolate.now.env.launch.limits.threads

pub returns-in-Act-clause-after : goal.returns-in-Act-clause-after
returns-in-Act-clause-after c = c.acting.ensures.after c.args.isolate.now

pub returns-in-Act-clause-begins : goal.returns-in-Act-clause-begins
returns-in-Act-clause-begins c = c.acting.ensures.begins c.args.caller.told.threads c.args.isolate.now.env.launch.limits.threads

pub returns-in-Join-clause-after : goal.returns-in-Join-clause-after
returns-in-Join-clause-after c = c.joining_thread.ensures.after c.args.isolate.now

pub returns-in-Join-clause-begins : goal.returns-in-Join-clause-begins
returns-in-Join-clause-begins c = c.joining_thread.ensures.begins c.args.caller.told.threads c.args.isolate.now.env.launch.limits.threads

pub returns-in-Wait-clause-after : goal.returns-in-Wait-clause-after
returns-in-Wait-clause-after c = c.waiting_on.ensures.after c.waiting_on.new.isolate

pub returns-in-Wait-clause-begins : goal.returns-in-Wait-clause-begins
returns-in-Wait-clause-begins c = c.waiting_on.ensures.begins c.args.caller.told.threads c.waiting_on.new.isolate.env.launch.limits.threads

pub returns-in-Start-clause-after : goal.returns-in-Start-clause-after
returns-in-Start-clause-after c = c.starting_thread.ensures.after c.starting_thread.new.isolate
