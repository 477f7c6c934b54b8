use Rattle.std.proofs.Common.{sym}
use Rattle.mvm_select.proofs.Places.{place_is}
use Rattle.mvm_select.proofs.told.told.Goals as goal

pub returns-in-Some-clause-places : goal.returns-in-Some-clause-places
returns-in-Some-clause-places c = place_is c.args.name.now c.args.desc.now c.args.own.now.file c.args.walk.now _ (sym c.in-Some.ensures)
