use Rattle.std.proofs.Common.{List, sym, subst, arith}
use Rattle.mvm_heap.specs.Objects.{Object, State}
use Rattle.mvm_native.specs.Throwables.{HasTwo}
use Rattle.mvm_native.proofs.Builders.{begun_two}
use Rattle.mvm_native.proofs.string_builder.rebuilt.Goals as goal

pub hold-requires : goal.hold-requires
hold-requires c =
    let os : List Object = c.new_array.new.heap.state.objects in
    subst (λ (s : State). HasTwo s.objects c.args.builder) (sym c.fill.ensures)
    (begun_two os c.in-Ok.array c.args.units.now c.args.builder (omega (arith, c.requires.within, c.in-Ok.ensures.room)) (c.in-Ok.ensures.kept c.requires.builder))
