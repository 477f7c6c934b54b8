use Rattle.std.proofs.Common.{is_some, sym, ap}
use Rattle.std.proofs.lemmas.Map.Text.{btree_map_updates_str}
use Rattle.mvm_initialise.proofs.Wanted.{look, met_known, met_new}
use Rattle.mvm_initialise.proofs.constants.is_first.Goals as goal

pub returns-in-Some-clause-next : goal.returns-in-Some-clause-next
returns-in-Some-clause-next c = met_known (look c.args.met.now) c.args.units.now (ap is_some (sym c.in-Some.ensures.value))

pub returns-clause-next : goal.returns-clause-next
returns-clause-next c =
    met_new (look c.args.met.now) (look c.insert.new.self) c.args.units.now tt
    (btree_map_updates_str c.args.units.now c.args.met.now c.insert.new.self _ c.in_ok-insert.ensures.updates)
