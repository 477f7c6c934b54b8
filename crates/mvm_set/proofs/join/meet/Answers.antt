use Rattle.mvm_set.proofs.Seen.{name_added}
use Rattle.mvm_set.proofs.join.meet.Goals as goal

pub returns-clause-next : goal.returns-clause-next
returns-clause-next c = λ other. name_added c.args.names.now c.insert.new.self c.args.units c.in_ok-is_new.ensures.updates other
