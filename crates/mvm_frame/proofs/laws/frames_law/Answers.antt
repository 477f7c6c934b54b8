use Rattle.mvm_frame.proofs.FormLaws.{follows}
use Rattle.mvm_frame.proofs.FrameLaws.{whole_law, entered_law, limits_law}
use Rattle.mvm_frame.proofs.laws.frames_law.Goals as goal

pub returns-clause-whole : goal.returns-clause-whole
returns-clause-whole c = whole_law

pub returns-clause-entered : goal.returns-clause-entered
returns-clause-entered c = entered_law

pub returns-clause-limits : goal.returns-clause-limits
returns-clause-limits c = limits_law

pub returns-clause-forms : goal.returns-clause-forms
returns-clause-forms c = follows
