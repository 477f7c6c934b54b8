use Rattle.std.proofs.Common.{length, ap, sym, ◌∙◌}
use Rattle.mvm_heap.specs.Heap.{zeros}
use Rattle.mvm_heap.specs.declared.kind.ObjectKind.TheVariants.{Array}
use Rattle.mvm_mirror.specs.Arrays.{shapes_of}
use Rattle.mvm_mirror.specs.Kept.{classes_of}
use Rattle.mvm_isolate.specs.Isolate.{new_array}
use Rattle.mvm_isolate.specs.Numbered.{named, shape_at}
use Rattle.mvm_isolate.specs.Types.{items_of, of_array}
use Rattle.mvm_isolate.proofs.Allocating.{alloc_err, alloc_gives, alloc_sound, alloc_there}
use Rattle.mvm_isolate.proofs.ArrayTypes.{array_is_typed, new_array_type, shape_is}
use Rattle.mvm_isolate.proofs.Held.{held}
use Rattle.mvm_isolate.proofs.isolate.Isolate.new_array.Goals as goal

pub invariant_of-self : goal.invariant_of-self
invariant_of-self c =
    let n = held c.self.inside in
    let there = rw (← c.self.view_is) at c.requires in
    alloc_sound n c.self.inside.known c.alloc_array.new.self (zeros (Array c.items_of-kind.result) c.args.row c.args.count) c.alloc_array.result c.alloc_array.ensures.does c.self.invariant
    (array_is_typed (length (classes_of n.mirrors)) (length n.arrays) c.args.row c.items_of-kind.result there)

pub returns-clause-does : goal.returns-clause-does
unfolding new_array named
returns-clause-does c =
    let n = held c.self.inside in
    let kind = c.items_of-kind.ensures ∙ ap items_of (sym (shape_is (shapes_of n.arrays) c.args.row c.shape.result.now c.shape.ensures.value)) in
    rw (← c.self.view_is, c.made_or.ensures, ← kind)
    (alloc_gives n c.self.inside.known c.alloc_array.new.self (zeros (Array c.items_of-kind.result) c.args.row c.args.count) c.alloc_array.result c.alloc_array.ensures.does
    (of_array (shape_at n c.args.row)) (new_array_type (classes_of n.mirrors) (shapes_of n.arrays) c.args.row c.items_of-kind.result kind) c.alloc_array.ensures.always)

pub returns-clause-there : goal.returns-clause-there
returns-clause-there c =
    let n = held c.self.inside in
    rw c.made_or.ensures (alloc_there c.alloc_array.new.self n c.alloc_array.result c.alloc_array.ensures.there)

pub returns-clause-err : goal.returns-clause-err
returns-clause-err c =
    let n = held c.self.inside in
    rw (← c.self.view_is, c.made_or.ensures)
    (alloc_err n c.self.inside.known c.alloc_array.new.self (zeros (Array c.items_of-kind.result) c.args.row c.args.count) c.alloc_array.result c.alloc_array.ensures.does)
