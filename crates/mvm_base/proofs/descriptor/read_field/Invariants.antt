use Rattle.std.proofs.Common.{◌≡◌, length}
use Rattle.mvm_base.specs.Descriptor.{field_in}
use Rattle.mvm_base.proofs.descriptor.read_field.Given as goal

abbrev pub invariant-loop-letter : goal.invariant-loop-letter
invariant-loop-letter l = record {
  reads : field_in l.dims l.letters.at l.letters.rest ≡ field_in 0 l.initial.letters.at l.initial.letters.rest;
  place : l.place ≡ l.letters.at;
}

abbrev pub decreases-loop-letter : goal.decreases-loop-letter
decreases-loop-letter l = length l.letters.rest
