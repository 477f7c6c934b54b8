use Rattle.std.proofs.Common.{◌≡◌, length, true}
use Rattle.mvm_base.specs.Descriptor.{name_in}
use Rattle.mvm_base.proofs.Descriptors.{with_front}
use Rattle.mvm_base.proofs.descriptor.read_name.Given as goal

abbrev pub invariant-loop-letter : goal.invariant-loop-letter
invariant-loop-letter l = record {
  reads : with_front l.units.items (name_in l.is_open l.letters.at l.letters.rest) ≡ name_in true l.initial.letters.at l.initial.letters.rest;
  place : l.place ≡ l.letters.at;
}

abbrev pub decreases-loop-letter : goal.decreases-loop-letter
decreases-loop-letter l = length l.letters.rest
