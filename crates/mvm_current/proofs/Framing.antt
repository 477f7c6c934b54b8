-- With a frame the stack refuses what its definitions refuse.
use Rattle.mvm_frame.proofs.Framed.{framed_some, given_some, load_some, store_some}

pub ruleset framing = (framed_some, given_some, load_some, store_some)
