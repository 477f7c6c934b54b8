use Rattle.std.proofs.Common.{◌≡◌, ◌-◌}
use Rattle.mvm_base.specs.Descriptor.{params_in}
use Rattle.mvm_base.proofs.Descriptors.{with_fields}
use Rattle.mvm_base.proofs.descriptor.read_params.Given as goal

abbrev pub invariant-loop-i : goal.invariant-loop-i
invariant-loop-i l = with_fields l.params (params_in (l.most - l.i) l.letters.at l.letters.rest) ≡ params_in l.most l.initial.letters.at l.initial.letters.rest
