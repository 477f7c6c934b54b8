use Rattle.mvm_native.proofs.Appended.{appended_holds, appended_others, new_holds}
use Rattle.mvm_native.proofs.laws.builder_law.Goals as goal

pub returns : goal.returns
returns c = record { begun = new_holds; appended = appended_holds; others = appended_others }
