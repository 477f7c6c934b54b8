use Rattle.std.proofs.Common.{◌∙◌, sym}
use Rattle.mvm_table.proofs.Starting.{no_path, ends}
use Rattle.mvm_table.proofs.table.Table.run.Goals as goal

pub returns-in-Ok-Some-clause-answer : goal.returns-in-Ok-Some-clause-answer
returns-in-Ok-Some-clause-answer g c = ends c.args.self.now.files c.args.set c.args.root.now c.in-Ok-Some.field-0 c.in-Ok-Some.class _ _ _ c.in-Ok-Some.field-0-is c.in-Ok-Some.ensures.goes

pub returns-in-Err-clause-answer : goal.returns-in-Err-clause-answer
returns-in-Err-clause-answer g c = λ k. sym (no_path c.args.self.now.files c.args.set c.args.root.now) ∙ c.in-Err.ensures.goes k
