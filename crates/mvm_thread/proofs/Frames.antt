-- The frames of a stack that has none.
use Rattle.std.proofs.Common.{◌≡◌, [], None, refl}
use Rattle.mvm_frame.specs.Parts.{StackParts}
use Rattle.mvm_isolate.specs.Numbered.{Numbered}
use Rattle.mvm_current.specs.Keys.{frames_named}

pub no_frames : (n : Numbered) (s : StackParts) → s.rest.below.key ≡ None → frames_named n s ≡ []
unfolding frames_named
no_frames n s e = rw e refl
