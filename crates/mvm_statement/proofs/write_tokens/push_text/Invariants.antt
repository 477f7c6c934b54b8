use Rattle.std.proofs.Common.{◌≡◌, ◌++◌, take}
use Rattle.mvm_statement.specs.Tokens.{spelled_word}
use Rattle.mvm_statement.proofs.write_tokens.push_text.Given as goal

-- the bytes so far are written
abbrev pub invariant-loop-byte : goal.invariant-loop-byte
invariant-loop-byte l = l.out ≡ l.initial.out ++ spelled_word (take l.byte-index l.byte-items)
