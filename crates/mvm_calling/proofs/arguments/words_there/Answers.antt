use Rattle.std.proofs.Common.{◌≡◌, ◌+◌, ◌-◌, Some, get_or, drop, sym, ◌∙◌, arith}
use Rattle.std.specs.Prelude.{slice_get}
use Rattle.std.proofs.lemmas.Option.{slice_get-get_or}
use Rattle.mvm_base.specs.declared.value.Kind.TheVariants.{Int}
use Rattle.mvm_current.specs.Arguments.{widths}
use Rattle.mvm_current.specs.Values.{width}
use Rattle.mvm_current.proofs.Reading.{widths_step}
use Rattle.mvm_calling.proofs.Arguing.{found_more}
use Rattle.mvm_calling.proofs.arguments.words_there.Goals as goal

pub loop-i-preserved : goal.loop-i-preserved
loop-i-preserved c =
    let k = get_or c.args.kinds.now c.loop-i.i Int in
    let at : slice_get c.args.kinds.now c.loop-i.i ≡ Some k = slice_get-get_or c.args.kinds.now c.loop-i.i Int c.loop-i-test.true in
    let sum : width k + widths (drop (c.loop-i.i + 1) c.args.kinds.now) ≡ c.loop-i.left = sym (widths_step c.args.kinds.now c.loop-i.i k at) ∙ c.loop-i.invariant.widths in
    let wide : c.width-left.result ≡ width k = c.width-left.ensures in
    record {
      within = omega arith;
      widths = omega arith;
      words = found_more c.args.kinds.now c.loop-i.i k c.args.stack.now.operands.slots c.loop-i.left (c.loop-i.left - c.width-left.result) _ at (omega arith) c.loop-i.invariant.within (sym c.begins_with.ensures ∙ c.if-not-begins_with.false) c.loop-i.invariant.words;
    }
