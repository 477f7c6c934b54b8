use Rattle.std.proofs.Common.{ap, sym, ◌∙◌}
use Rattle.mvm_isolate.specs.Faults.{looked_up}
use Rattle.mvm_isolate.specs.Numbered.{look_of}
use Rattle.mvm_starting.proofs.Taking.{no_class}
use Rattle.mvm_starting.proofs.firsts.first_of.Goals as goal

pub returns-in-Err-clause-err : goal.returns-in-Err-clause-err
returns-in-Err-clause-err g c definite = no_class (look_of c.args.isolate.now) c.args.member.now c.in-Err.stop (ap (λ class. looked_up ((look_of c.args.isolate.now).class class)) (sym c.class.ensures) ∙ c.in-Err.ensures.fault definite)
