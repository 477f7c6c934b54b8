use Rattle.std.proofs.Common.{length, refl}
use Rattle.mvm_heap.specs.Heap.{text}
use Rattle.mvm_isolate.specs.Isolate.{new_text}
use Rattle.mvm_isolate.specs.Numbered.{named}
use Rattle.mvm_isolate.specs.Types.{of_class, STRING}
use Rattle.mvm_isolate.proofs.Allocating.{alloc_err, alloc_gives, alloc_sound, alloc_there}
use Rattle.mvm_isolate.proofs.Held.{held}
use Rattle.mvm_isolate.proofs.isolate.Isolate.new_text.Goals as goal

pub invariant_of-self : goal.invariant_of-self
invariant_of-self c =
    let n = held c.self.inside in
    alloc_sound n c.self.inside.known c.alloc_text.new.self (text c.args.units.now) c.alloc_text.result c.alloc_text.ensures.does c.self.invariant tt

pub returns-clause-does : goal.returns-clause-does
unfolding new_text named
returns-clause-does c =
    let n = held c.self.inside in
    rw (← c.self.view_is, c.made_or.ensures)
    (alloc_gives n c.self.inside.known c.alloc_text.new.self (text c.args.units.now) c.alloc_text.result c.alloc_text.ensures.does (of_class STRING) refl c.alloc_text.ensures.always)

pub returns-clause-there : goal.returns-clause-there
returns-clause-there c =
    let n = held c.self.inside in
    rw c.made_or.ensures (alloc_there c.alloc_text.new.self n c.alloc_text.result c.alloc_text.ensures.there)

pub returns-clause-err : goal.returns-clause-err
returns-clause-err c =
    let n = held c.self.inside in
    rw (← c.self.view_is, c.made_or.ensures) (alloc_err n c.self.inside.known c.alloc_text.new.self (text c.args.units.now) c.alloc_text.result c.alloc_text.ensures.does)
