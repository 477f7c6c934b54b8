use Rattle.mvm_kept.proofs.Growing.{kept_grows}
use Rattle.mvm_kept.proofs.constants.load_constant.Goals as goal

pub returns-clause-kept : goal.returns-clause-kept
returns-clause-kept g c = kept_grows c.args.isolate.now c.load_constant.new.isolate c.args.kept.now c.load_constant.ensures.grows c.requires.kept
