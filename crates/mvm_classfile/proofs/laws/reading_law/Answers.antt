use Rattle.mvm_classfile.proofs.Answered.{one, never_both, either, cut, longer, lowest_of}
use Rattle.mvm_classfile.proofs.Codes.{methods_read}
use Rattle.mvm_classfile.proofs.laws.reading_law.Goals as goal

pub returns-clause-one : goal.returns-clause-one
returns-clause-one c = one

pub returns-clause-never_both : goal.returns-clause-never_both
returns-clause-never_both c = never_both

pub returns-clause-either : goal.returns-clause-either
returns-clause-either c = either

pub returns-clause-cut : goal.returns-clause-cut
returns-clause-cut c = cut

pub returns-clause-longer : goal.returns-clause-longer
returns-clause-longer c = longer

pub returns-clause-lowest : goal.returns-clause-lowest
returns-clause-lowest c = lowest_of

pub returns-clause-methods : goal.returns-clause-methods
returns-clause-methods c = methods_read
