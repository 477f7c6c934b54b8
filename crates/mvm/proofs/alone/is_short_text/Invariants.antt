-- What was counted and what is left are the characters of the whole.
use Rattle.std.proofs.Common.{◌≡◌, ◌≤◌, ◌+◌, length}
use Rattle.std.specs.Prelude.{is_some}
use Rattle.std.specs.Char.Utf16.{utf16_chars}
use Rattle.std.specs.List.{list_all}
use Rattle.mvm.proofs.alone.is_short_text.Given as goal

abbrev pub invariant-loop-rest : goal.invariant-loop-rest
invariant-loop-rest l =
    (l.count + length (utf16_chars l.rest) ≡ length (utf16_chars l.units)) × (list_all is_some (utf16_chars l.rest) ≡ list_all is_some (utf16_chars l.units)) × (l.count ≤ 255)

abbrev pub decreases-loop-rest : goal.decreases-loop-rest
decreases-loop-rest l = length l.rest
