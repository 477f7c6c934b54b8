use Rattle.mvm_statement.proofs.TextsBack.{says_back, indented_says, framed_says, text_plain, empty_says, comment_says}
use Rattle.mvm_statement.proofs.laws.statement_law.Goals as goal

pub returns-clause-back : goal.returns-clause-back
returns-clause-back c = says_back

pub returns-clause-indented : goal.returns-clause-indented
returns-clause-indented c = indented_says

pub returns-clause-remarked : goal.returns-clause-remarked
returns-clause-remarked c = framed_says

pub returns-clause-printable : goal.returns-clause-printable
returns-clause-printable c = text_plain

pub returns-clause-empty : goal.returns-clause-empty
returns-clause-empty c = empty_says

pub returns-clause-comment : goal.returns-clause-comment
returns-clause-comment c = comment_says
