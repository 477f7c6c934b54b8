use Rattle.mvm_outside.proofs.Pieces.{front_and_rest}
use Rattle.mvm_outside.proofs.memory_source.Tape.read.Goals as goal

pub returns-clause-bytes : goal.returns-clause-bytes
returns-clause-bytes c =
    let whole = c.self.view_is in
    let left = rw c.as_slice.ensures at c.split_at.ensures.back in
    front_and_rest c.self.inside.bytes _ c.split_at.result.1.now c.copy_front-count.new.to c.self.inside.at c.copy_front-count.result whole left c.copy_front-count.ensures.bytes
