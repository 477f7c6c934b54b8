use Rattle.std.proofs.Common.{ℕ, ◌+◌, ◌++◌, List, length, take, ap, sym, ◌∙◌, arith}
use Rattle.mvm_heap.specs.Heap.{object_at, written}
use Rattle.mvm_heap.specs.Objects.{Object, State}
use Rattle.mvm_native.specs.Builders.{begun}
use Rattle.mvm_native.proofs.Builders.{begun_sorts, filling_begins, filling_length, filling_next}
use Rattle.mvm_native.proofs.Objects.{array_no_text, array_there}
use Rattle.mvm_native.proofs.string_builder.fill.Goals as goal

pub loop-i-init : goal.loop-i-init
loop-i-init c = ap (λ (os : List Object). record c.args.heap.now.state { objects = os }) (sym (filling_begins c.args.heap.now.state.objects c.args.array c.args.from (omega (arith, c.requires.within))))

pub put-requires-clause-place : goal.put-requires-clause-place
put-requires-clause-place c =
    omega (
      arith,
      c.loop-i-test.true,
      c.requires.within,
      ap (λ (s : State). length (object_at s.objects c.args.array).contents) c.loop-i.invariant,
      filling_length c.args.heap.now.state.objects c.args.array c.args.units.now c.args.from c.loop-i.i c.requires.within (omega (arith, c.loop-i-test.true)),
    )

pub put-requires-clause-sort : goal.put-requires-clause-sort
put-requires-clause-sort c =
    let os : List Object = c.args.heap.now.state.objects in
    array_no_text _ (ap (λ (s : State). (object_at s.objects c.args.array).sort) c.loop-i.invariant
    ∙ begun_sorts os c.args.array (take c.args.from (object_at os c.args.array).contents ++ take c.loop-i.i c.args.units.now) c.args.array ∙ c.requires.chars)

pub loop-i-preserved : goal.loop-i-preserved
loop-i-preserved c =
    let os : List Object = c.args.heap.now.state.objects in
    c.put.ensures.state ∙ ap (λ (s : State). record s { objects = written s.objects c.args.array (c.args.from + c.loop-i.i) c.from.result }) c.loop-i.invariant
    ∙ ap (λ (xs : List Object). record c.args.heap.now.state { objects = xs }) (ap (λ (v : ℕ). written (begun os c.args.array (take c.args.from (object_at os c.args.array).contents ++ take c.loop-i.i c.args.units.now)) c.args.array (c.args.from + c.loop-i.i) v) c.from.ensures
    ∙ filling_next os c.args.array c.args.units.now c.args.from c.loop-i.i (array_there os c.args.array c.requires.chars) c.requires.chars c.requires.within c.loop-i-test.true (c.type_inv.units c.loop-i.i).fits)
