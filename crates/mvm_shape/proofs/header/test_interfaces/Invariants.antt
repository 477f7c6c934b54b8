use Rattle.std.proofs.Common.{◌≡◌, ℕ, ◌+◌, ◌*◌, drop}
use Rattle.mvm_layout.specs.declared.fault.ClassFault.TheVariants.{Shape}
use Rattle.mvm_layout.specs.Pool.{entry, is_class}
use Rattle.mvm_base.specs.Rules.{expect, each_from}
use Rattle.mvm_shape.proofs.header.test_interfaces.Given as goal

abbrev pub invariant-loop-i : goal.invariant-loop-i
invariant-loop-i l =
    each_from l.i (λ n (index : ℕ). expect (is_class (entry l.info.pool index)) (Shape (l.info.at + 8 + 2 * n))) (drop l.i l.info.interfaces)
    ≡ each_from 0 (λ n (index : ℕ). expect (is_class (entry l.info.pool index)) (Shape (l.info.at + 8 + 2 * n))) l.info.interfaces
