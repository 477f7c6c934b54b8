use Rattle.std.proofs.Common.{arith}
use Rattle.std.proofs.lemmas.Grind.{common_steps}
use Rattle.mvm_set.proofs.Over.{class_made, class_kept}
use Rattle.mvm_set.proofs.class.Class.over.Goals as goal

pub invariant_of-result : goal.invariant_of-result
invariant_of-result c =
    class_kept c.args.set c.args.file c.args.above.now c.args.across.now _
    (class_made c.args.set c.args.file c.args.above.now c.args.across.now c.in_ok-own.own c.in_ok-line.line c.in_ok-walk.walk c.in_ok-checked.checked c.in_ok-superinterfaces.superinterfaces
    (grind (arith, common_steps)) (grind (arith, common_steps)) (grind (arith, common_steps)) (grind (arith, common_steps)) (grind (arith, common_steps)))
    (omega (arith, c.if-len-gt-MOST_CLASSES.false, c.len.ensures))
    (omega (arith, c.if-len-gt-MOST_CLASSES-2.false, c.len-else-len-gt-MOST_CLASSES.ensures))
