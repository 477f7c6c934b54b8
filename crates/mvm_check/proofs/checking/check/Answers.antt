use Rattle.mvm_check.proofs.Sound.{sound_answer}
use Rattle.mvm_check.proofs.checking.check.Goals as goal

pub returns-clause-sound : goal.returns-clause-sound
returns-clause-sound c =
    let answers = rw c.parts.ensures.value at c.check_parts.ensures in
    sound_answer c.args.class.now c.check_parts.result answers
