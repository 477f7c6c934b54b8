use Rattle.std.proofs.Common.{◌≡◌, ◌<◌, ◌^◌, ◌+◌, ◌-◌, min, true, false, not, length, refl, ap, arith}
use Rattle.mvm_heap.specs.Sorts.{words_needed}
use Rattle.mvm_heap.specs.declared.kind.ObjectKind.TheVariants.{Text}
use Rattle.mvm_isolate.specs.Numbered.{named}
use Rattle.mvm_initialise.specs.Constants.{is_met}
use Rattle.mvm_initialise.proofs.Wanted.{interned_counted, met_counted}
use Rattle.mvm_initialise.proofs.constants.words_with.Goals as goal

pub returns-in-Some : goal.returns-in-Some
returns-in-Some c = interned_counted (named c.args.isolate.now).heap c.args.met.now c.args.units.now c.args.sum _ c.ranges.sum.fits c.in-Some.ensures.value c.in-Some.ensures.there (omega arith)

pub returns-then-branch : goal.returns-then-branch
returns-then-branch c =
    let f : true ≡ not (is_met c.args.met.now c.args.units.now) = cc (c.in_ok-is_first-in-None.ensures.first) in
    let n : c.in-Ok.count ≡ length c.args.units.now = omega arith in
    let w : words_needed Text c.in-Ok.count ≡ words_needed Text (length c.args.units.now) = ap (words_needed Text) n in
    met_counted (named c.args.isolate.now).heap c.args.met.now c.is_first.new.met c.args.units.now c.args.sum c.added.result true c.ranges.sum.fits f c.in-None.ensures.value c.in_ok-is_first-in-None.ensures.next
    (omega (arith, w, c.added.ensures, c.words_needed.ensures.words)) (omega arith)

pub returns-else-branch : goal.returns-else-branch
returns-else-branch c =
    let f : false ≡ not (is_met c.args.met.now c.args.units.now) = cc (c.in_ok-is_first-in-None.ensures.first) in
    met_counted (named c.args.isolate.now).heap c.args.met.now c.is_first.new.met c.args.units.now c.args.sum c.args.sum false c.ranges.sum.fits f c.in-None.ensures.value c.in_ok-is_first-in-None.ensures.next
    refl (omega arith)
