use Rattle.std.proofs.Common.{◌≡◌, sym, ap, ◌∙◌}
use Rattle.std.specs.Prelude.{chars}
use Rattle.mvm_statement.specs.Tokens.{tokens}
use Rattle.mvm_statement.specs.Statements.{tokens_say, line_says}
use Rattle.mvm_statement.proofs.Utf8.{utf8_says, other_says}
use Rattle.mvm_statement.proofs.read_statement.read_line.Goals as goal

pub returns-in_default : goal.returns-in_default
returns-in_default c = other_says c.args.line.now c.in_default.ensures.cases.0

pub returns : goal.returns
returns c =
    let line = c.args.line.now in
    let is = c.in-Ok.ensures.cases in
    let read : c.as_slice.result.now ≡ tokens (chars line) = c.as_slice.ensures ∙ c.in_ok-tokens.ensures ∙ ap (λ (x : _). tokens (chars x)) is.0 in
    let e : line_says line ≡ tokens_say c.as_slice.result.now = utf8_says line is.1 ∙ ap tokens_say (sym read) in
    rw e c.tokens_say.ensures
