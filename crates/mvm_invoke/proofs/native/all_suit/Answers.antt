use Rattle.std.proofs.Common.{◌≡◌, ◌+◌, length, drop, Bool, true, false, Some, Ok, refl, ap, arith}
use Rattle.std.specs.Prelude.{map, slice_get}
use Rattle.std.proofs.lemmas.Option.{slice_get_read}
use Rattle.mvm_isolate.specs.Natives.{all_suit, type_of_shape}
use Rattle.mvm_isolate.specs.Numbered.{look_of, named}
use Rattle.mvm_invoke.proofs.Suiting.{ok_same, suits_all, suits_no, suits_on}
use Rattle.mvm_invoke.proofs.native.all_suit.Goals as goal

pub returns-then-not-branch : goal.returns-then-not-branch
returns-then-not-branch g c =
    let unsuited : c.in_ok-suits_at.field-0 ≡ false = grind (arith, c.if-not-branch.true) in
    ap Ok
    (suits_no (look_of c.args.isolate.now) (named c.args.isolate.now) c.args.shapes.now c.args.words.now c.loop-i.i c.args.from c.index-shapes-i.result _
    (slice_get_read c.args.shapes.now (length c.args.shapes.now) c.loop-i.i c.index-shapes-i.result refl c.loop-i-test.true c.index-shapes-i.is)
    (ok_same _ c.in_ok-suits_at.field-0 false c.in_ok-suits_at.ensures unsuited) c.loop-i.invariant)

pub loop-i-preserved : goal.loop-i-preserved
loop-i-preserved g c =
    let suited : c.in_ok-suits_at.field-0 ≡ true = grind (arith, c.if-not-branch.false) in
    suits_on (look_of c.args.isolate.now) (named c.args.isolate.now) c.args.shapes.now c.args.words.now c.loop-i.i c.args.from c.index-shapes-i.result _
    (slice_get_read c.args.shapes.now (length c.args.shapes.now) c.loop-i.i c.index-shapes-i.result refl c.loop-i-test.true c.index-shapes-i.is)
    (ok_same _ c.in_ok-suits_at.field-0 true c.in_ok-suits_at.ensures suited) c.loop-i.invariant

pub returns : goal.returns
returns g c = ap Ok (suits_all (look_of c.args.isolate.now) (named c.args.isolate.now) c.args.shapes.now (drop (c.loop-i.i + c.args.from) c.args.words.now) c.loop-i.i _ c.loop-i-test.false c.loop-i.invariant)
