-- What a line says, where it is UTF-8 and where it is not.
use Rattle.std.proofs.Common.{◌≡◌, ℕ, Bool, true, false, List, Err, refl}
use Rattle.std.specs.Prelude.{chars, IsUtf8}
use Rattle.std.specs.Str.{is_utf8}
use Rattle.std.proofs.lemmas.Str.{IsUtf8-from_is_utf8, is_utf8-from_IsUtf8}
use Rattle.mvm_statement.specs.Tokens.{tokens}
use Rattle.mvm_statement.specs.Statements.{tokens_say, line_says}
use Rattle.mvm_statement.specs.declared.fault.AsmKind.TheVariants.{Word}

pub utf8_says : (line : List ℕ) → IsUtf8 line → line_says line ≡ tokens_say (tokens (chars line))
unfolding line_says
utf8_says line h = rw (is_utf8-from_IsUtf8 line h) refl

pub other_says : (line : List ℕ) → ¬ (IsUtf8 line) → line_says line ≡ Err Word
unfolding line_says
other_says line h = by (is_utf8 line) refl
  where
    by : (b : Bool) → is_utf8 line ≡ b → line_says line ≡ Err Word
    by true e = absurd (h (IsUtf8-from_is_utf8 line e))
    by false e = rw e refl
