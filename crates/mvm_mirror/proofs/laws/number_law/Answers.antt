use Rattle.mvm_mirror.proofs.Staying.{class_stays, name_stays, shape_stays, array_stays}
use Rattle.mvm_mirror.proofs.laws.number_law.Goals as goal

pub returns-clause-class : goal.returns-clause-class
returns-clause-class c = class_stays

pub returns-clause-name : goal.returns-clause-name
returns-clause-name c = name_stays

pub returns-clause-shape : goal.returns-clause-shape
returns-clause-shape c = shape_stays

pub returns-clause-array : goal.returns-clause-array
returns-clause-array c = array_stays
