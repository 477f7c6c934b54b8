use Rattle.mvm_isolate.proofs.Allocating.{alloc_there}
use Rattle.mvm_isolate.proofs.Held.{held}
use Rattle.mvm_isolate.proofs.Interned.{new_err, new_gives, new_room, new_sound, new_within}
use Rattle.mvm_isolate.proofs.isolate.Isolate.new_interned.Goals as goal

pub invariant_of-self : goal.invariant_of-self
invariant_of-self c =
    let none = rw (← c.self.view_is) at c.requires.none in
    new_sound (held c.self.inside) c.self.inside.known c.intern.new.self c.args.units.now none c.intern.result c.intern.ensures.does c.self.invariant

pub returns-clause-does : goal.returns-clause-does
returns-clause-does c =
    let none = rw (← c.self.view_is) at c.requires.none in
    rw (← c.self.view_is, c.made_or.ensures) (new_gives (held c.self.inside) c.self.inside.known c.intern.new.self c.args.units.now none c.intern.result c.intern.ensures.does)

pub returns-clause-there : goal.returns-clause-there
returns-clause-there c = rw c.made_or.ensures (alloc_there c.intern.new.self (held c.self.inside) c.intern.result c.intern.ensures.there)

pub returns-clause-within : goal.returns-clause-within
returns-clause-within c =
    let none = rw (← c.self.view_is) at c.requires.none in
    rw (← c.self.view_is, c.made_or.ensures) (λ may ok.
    new_within (held c.self.inside) c.self.inside.known c.intern.new.self c.args.units.now none c.intern.result c.intern.ensures.does may ok c.intern.ensures.within)

pub returns-clause-room : goal.returns-clause-room
returns-clause-room c =
    let none = rw (← c.self.view_is) at c.requires.none in
    rw (← c.self.view_is, c.made_or.ensures)
    (new_room (held c.self.inside) c.self.inside.known c.intern.new.self c.args.units.now none c.intern.result c.intern.ensures.does c.intern.ensures.takes)

pub returns-clause-err : goal.returns-clause-err
returns-clause-err c =
    let none = rw (← c.self.view_is) at c.requires.none in
    rw (← c.self.view_is, c.made_or.ensures) (new_err (held c.self.inside) c.self.inside.known c.intern.new.self c.args.units.now none c.intern.result c.intern.ensures.does)
