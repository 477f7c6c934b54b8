use Rattle.std.proofs.Common.{◌≡◌, ◌++◌, length, drop}
use Rattle.std.specs.Str.{chars}
use Rattle.mvm_statement.specs.Tokens.{tokens, tokens_from}
use Rattle.mvm_statement.proofs.tokens.tokens.Given as goal

-- what is done, and the tokens of what is left, are the tokens of the line
abbrev pub invariant-loop-c : goal.invariant-loop-c
invariant-loop-c l = tokens (chars l.line) ≡ l.done ++ tokens_from l.mode (drop (length l.yielded) (chars l.line))
