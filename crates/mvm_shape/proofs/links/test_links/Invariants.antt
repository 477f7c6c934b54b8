use Rattle.std.proofs.Common.{◌≡◌, ◌+◌, drop}
use Rattle.mvm_layout.specs.declared.parts.Item.{Item}
use Rattle.mvm_layout.specs.declared.fault.ClassFault.TheVariants.{Pool}
use Rattle.mvm_shape.specs.Links.{is_linked}
use Rattle.mvm_base.specs.Rules.{expect, each_from}
use Rattle.mvm_shape.proofs.links.test_links.Given as goal

abbrev pub invariant-loop-i : goal.invariant-loop-i
invariant-loop-i l =
    each_from (1 + l.i) (λ index (item : Item). expect (is_linked l.pool item) (Pool index)) (drop l.i l.pool)
    ≡ each_from 1 (λ index (item : Item). expect (is_linked l.pool item) (Pool index)) l.pool
