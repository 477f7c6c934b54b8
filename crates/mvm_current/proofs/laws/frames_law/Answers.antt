use Rattle.mvm_current.proofs.Entering.{frames_are}
use Rattle.mvm_current.proofs.Growth.{keys_grow, frames_grow, top_grows, callers_grow}
use Rattle.mvm_current.proofs.KeyLaws.{body_tells, runs_stay}
use Rattle.mvm_current.proofs.laws.frames_law.Goals as goal

pub returns-clause-top : goal.returns-clause-top
returns-clause-top c n stack key e = frames_are n stack key e

pub returns-clause-method : goal.returns-clause-method
returns-clause-method c n stack from to is = runs_stay n stack.rest.below.key to from is

pub returns-clause-keys : goal.returns-clause-keys
returns-clause-keys c old new stack grows keys = keys_grow old new stack grows keys

pub returns-clause-frames : goal.returns-clause-frames
returns-clause-frames c old new stack grows keys = frames_grow old new stack grows keys

pub returns-clause-current : goal.returns-clause-current
returns-clause-current c old new stack grows keys = top_grows old new stack grows keys

pub returns-clause-callers : goal.returns-clause-callers
returns-clause-callers c old new stack grows keys = callers_grow old new stack grows keys

pub returns-clause-body : goal.returns-clause-body
returns-clause-body c n old new e is = body_tells n old new e is
