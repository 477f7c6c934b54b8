use Rattle.std.proofs.Common.{◌<◌, length, refl, sym, subst}
use Rattle.std.proofs.lemmas.Result.{IfOk-weaker}
use Rattle.mvm_heap.specs.Heap.{zeros}
use Rattle.mvm_heap.specs.declared.kind.ObjectKind.TheVariants.{Object}
use Rattle.mvm_native.proofs.Unclassed.{unclassed_length}
use Rattle.mvm_isolate.specs.Isolate.{new_object}
use Rattle.mvm_isolate.specs.Numbered.{name_at, named}
use Rattle.mvm_isolate.specs.Types.{of_class}
use Rattle.mvm_isolate.proofs.Allocating.{alloc_err, alloc_gives, alloc_sound, alloc_there}
use Rattle.mvm_isolate.proofs.Held.{held}
use Rattle.mvm_isolate.proofs.isolate.Isolate.new_object.Goals as goal

pub invariant_of-self : goal.invariant_of-self
invariant_of-self c =
    let n = held c.self.inside in
    let there = rw (← c.self.view_is) at c.requires in
    alloc_sound n c.self.inside.known c.alloc_object.new.self (zeros Object c.args.mirror c.args.fields) c.alloc_object.result c.alloc_object.ensures.does c.self.invariant there

pub returns-clause-does : goal.returns-clause-does
unfolding new_object named
returns-clause-does c =
    let n = held c.self.inside in
    rw (← c.self.view_is, c.made_or.ensures)
    (alloc_gives n c.self.inside.known c.alloc_object.new.self (zeros Object c.args.mirror c.args.fields) c.alloc_object.result c.alloc_object.ensures.does
    (of_class (name_at n c.args.mirror)) refl c.alloc_object.ensures.always)

pub returns-clause-there : goal.returns-clause-there
returns-clause-there c =
    let n = held c.self.inside in
    rw c.made_or.ensures (alloc_there c.alloc_object.new.self n c.alloc_object.result c.alloc_object.ensures.there)

pub returns-clause-err : goal.returns-clause-err
returns-clause-err c =
    let n = held c.self.inside in
    rw (← c.self.view_is, c.made_or.ensures) (alloc_err n c.self.inside.known c.alloc_object.new.self (zeros Object c.args.mirror c.args.fields) c.alloc_object.result c.alloc_object.ensures.does)
