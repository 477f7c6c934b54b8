use Rattle.std.proofs.Common.{sym, ap, ◌∙◌}
use Rattle.mvm_frame.proofs.Placing.{new_stands, new_is}
use Rattle.mvm_frame.proofs.stack.Stack.new.Goals as goal

pub invariant_of-result : goal.invariant_of-result
invariant_of-result c =
    let v = c.in_ok-vec.field-0 in
    new_stands _ c.args.words c.in_ok-callers.callers.rows v.items (ap (λ r. r.rows) c.in_ok-callers.ensures) (sym v.ok.0 ∙ c.in_ok-vec.ensures.len) c.ranges.words.fits

pub returns : goal.returns
returns c =
    let v = c.in_ok-vec.field-0 in
    new_is _ c.args.words c.args.frames c.in_ok-callers.callers v.items c.in_ok-callers.ensures (sym v.ok.0 ∙ c.in_ok-vec.ensures.len)
