use Rattle.std.specs.Cmp.Lexicographic.{slice_cmp}
use Rattle.std.specs.Ordering.{nat_cmp}
use Rattle.std.proofs.Common.{rules}
use Rattle.std.proofs.lemmas.Fn.{always_returns_same}
use Rattle.mvm_builtin.proofs.Halving.{present, absent, rises}
use Rattle.mvm_builtin.proofs.index.line_in.Goals as goal

pub returns-in-Ok : goal.returns-in-Ok
returns-in-Ok c =
    present c.args.index.now c.args.name.now c.in-Ok.at _ c.in-Ok.ensures.bound
    (c.in-Ok.ensures.position (λ entry. slice_cmp nat_cmp entry.0.now c.args.name.now) (always_returns_same _ _ _ (λ a r g called. (search rules, search rules))))

pub returns-in-Err : goal.returns-in-Err
returns-in-Err c =
    absent c.args.index.now c.args.name.now c.in-Err.field-0
    (c.in-Err.ensures.position (λ entry. slice_cmp nat_cmp entry.0.now c.args.name.now) (always_returns_same _ _ _ (λ a r g called. (search rules, search rules))) (rises c.args.index.now c.args.name.now c.requires))
