use Rattle.std.proofs.Common.{sym, ◌∙◌}
use Rattle.mvm_isolate.proofs.Held.{held}
use Rattle.mvm_isolate.proofs.Interned.{known_gives, known_there}
use Rattle.mvm_isolate.proofs.isolate.Isolate.interned_text.Goals as goal

pub returns-in-Some-clause-does : goal.returns-in-Some-clause-does
returns-in-Some-clause-does c =
    let found = rw c.in-Some.is at c.interned.ensures.is in
    rw (← c.self.view_is) (known_gives (held c.self.inside) c.args.units.now c.in-Some.object (sym found))

pub returns-in-Some-clause-there : goal.returns-in-Some-clause-there
returns-in-Some-clause-there c =
    let there = rw c.in-Some.is at c.interned.ensures.there in
    rw (← c.self.view_is) (known_there (held c.self.inside) c.in-Some.object there)
