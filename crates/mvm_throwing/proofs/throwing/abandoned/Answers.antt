use Rattle.std.proofs.Common.{sym, ◌∙◌}
use Rattle.mvm_throwing.proofs.Steps.{fewer, no_frames}
use Rattle.mvm_throwing.proofs.throwing.abandoned.Goals as goal

pub loop-key-smaller : goal.loop-key-smaller
loop-key-smaller c = fewer c.args._isolate.now c.args._isolate.now c.loop-key.stack c.leave.new.stack c.in-Some.key (sym c.top.ensures ∙ c.in-Some.is) (c.leave.ensures.does c.args._isolate.now)

pub returns-clause-frames : goal.returns-clause-frames
returns-clause-frames c = no_frames c.args._isolate.now c.loop-key.stack (sym c.top.ensures ∙ c.in_default.is)

pub loop-key-preserved : goal.loop-key-preserved
loop-key-preserved c = record {
  keys = c.leave.ensures.keys c.args._isolate.now c.loop-key.invariant.keys;
  limits = λ limits is. c.leave.ensures.limits limits (c.loop-key.invariant.limits limits is);
}
