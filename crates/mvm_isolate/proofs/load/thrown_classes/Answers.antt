use Rattle.std.proofs.Common.{◌≡◌, ◌≤◌, ◌+◌, List, ℕ, length, ap, sym, subst, arith}
use Rattle.std.specs.Prelude.{slice_index_or}
use Rattle.mvm_mirror.specs.Kept.{classes_of}
use Rattle.mvm_mirror.specs.Seen.{IsNumbered}
use Rattle.mvm_native.specs.declared.out.Thrown.{Thrown}
use Rattle.mvm_native.specs.declared.out.Thrown.TheVariants.{ArithmeticException}
use Rattle.mvm_isolate.specs.Thrown.{name_of_thrown}
use Rattle.mvm_isolate.specs.declared.known.TheConstants.{ALL_THROWN}
use Rattle.mvm_isolate.proofs.Loading.{loads_then}
use Rattle.mvm_isolate.proofs.Throwables.{AreThrownBelow, thrown_all, thrown_more, thrown_none}
use Rattle.mvm_isolate.proofs.load.thrown_classes.Goals as goal

pub loop-thrown-preserved : goal.loop-thrown-preserved
loop-thrown-preserved g c =
    let old = classes_of c.loop-thrown.mirrors in
    let new = classes_of c.known_class.new.mirrors in
    let place : ℕ = c.loop-thrown.thrown-index in
    let item : Thrown = slice_index_or c.as_slice-thrown-items.result.now place ArithmeticException in
    record {
      loads = loads_then c.args.table.now.files c.args.set c.args.mirrors.now c.loop-thrown.mirrors c.known_class.new.mirrors c.loop-thrown.invariant.loads c.in_ok-known_class.ensures.loads;
      thrown =
          subst (λ (numbers : List ℕ). AreThrownBelow new numbers (place + 1)) (sym c.in_ok-push.ensures.ok)
          (thrown_more old new c.loop-thrown.numbers place c.in_ok-known_class.field-0 item ArithmeticException c.loop-thrown.invariant.thrown c.in_ok-known_class.ensures.loads.numbers
          (ap (λ (items : List Thrown). slice_index_or items place ArithmeticException) c.as_slice-thrown-items.ensures)
          (subst (λ (name : List ℕ). IsNumbered new c.in_ok-known_class.field-0 name) c.name_of_thrown-name.ensures c.in_ok-known_class.ensures.number));
    }

pub returns-clause-thrown : goal.returns-clause-thrown
returns-clause-thrown g c =
    let count : length c.as_slice-thrown-items.result.now ≡ length ALL_THROWN = ap length c.as_slice-thrown-items.ensures in
    let all : c.loop-thrown.thrown-index ≡ length ALL_THROWN = omega (arith, c.loop-thrown-test.false, c.loop-thrown.auto.thrown-index-end, count) in
    thrown_all (classes_of c.loop-thrown.mirrors) c.loop-thrown.numbers (subst (AreThrownBelow (classes_of c.loop-thrown.mirrors) c.loop-thrown.numbers) all c.loop-thrown.invariant.thrown)
