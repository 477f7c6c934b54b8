use Rattle.std.proofs.Common.{◌≡◌, length, ◌-◌, slice_get, rules}
use Rattle.std.specs.Option.{option_copied}
use Rattle.mvm_history.proofs.Lasts.{last_there, last_missing}
use Rattle.mvm_history.proofs.history.History.last_stamp.Goals as goal

pub returns-in-Some : goal.returns-in-Some
returns-in-Some c =
    let found : option_copied c.last.result ≡ slice_get c.args.self.now (length c.args.self.now - 1) = search rules in
    last_there c.args.self.now (option_copied c.last.result) c.in-Some.entry.now found (search rules)

pub returns-in-None : goal.returns-in-None
returns-in-None c =
    let found : option_copied c.last.result ≡ slice_get c.args.self.now (length c.args.self.now - 1) = search rules in
    last_missing c.args.self.now (option_copied c.last.result) found (search rules)
