use Rattle.std.proofs.Common.{◌≡◌, ◌++◌, take}
use Rattle.mvm_statement.specs.Tokens.{spelled_word}
use Rattle.mvm_statement.proofs.write_tokens.push_word.Given as goal

-- the units so far are written
abbrev pub invariant-loop-unit : goal.invariant-loop-unit
invariant-loop-unit l = l.out ≡ l.initial.out ++ spelled_word (take l.unit-index l.word)
