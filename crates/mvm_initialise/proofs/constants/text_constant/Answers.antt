use Rattle.std.proofs.Common.{◌≡◌, true, false}
use Rattle.mvm_initialise.proofs.constants.text_constant.Goals as goal

pub unreachable-requires : goal.unreachable-requires
unreachable-requires c = let h : false ≡ true = c.in-Err.ensures.within c.requires.room c.requires.fits in cc
