use Rattle.mvm_layout.proofs.Texts.{decoded_text-sound, decoded_text-complete}
use Rattle.mvm_layout.proofs.Layouts.{code_in-sound, code_in-complete}
use Rattle.mvm_layout.proofs.Cuts.{laid-cut, laid-longer}
use Rattle.mvm_layout.proofs.Ascending.{places_ascend}
use Rattle.mvm_layout.proofs.laws.layout_law.Goals as goal

pub returns-clause-text : goal.returns-clause-text
returns-clause-text c = λ bytes units. (decoded_text-sound bytes units, λ h. decoded_text-complete bytes units h.0 h.1)

pub returns-clause-code : goal.returns-clause-code
returns-clause-code c = λ attribute info. (code_in-sound attribute info, code_in-complete attribute info)

pub returns-clause-cut : goal.returns-clause-cut
returns-clause-cut c = laid-cut

pub returns-clause-longer : goal.returns-clause-longer
returns-clause-longer c = laid-longer

pub returns-clause-ascends : goal.returns-clause-ascends
returns-clause-ascends c = places_ascend
