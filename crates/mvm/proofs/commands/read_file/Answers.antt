use Rattle.mvm.proofs.Faults.{class_file, no_class_file}
use Rattle.mvm.proofs.commands.read_file.Goals as goal

pub returns-clause-ok : goal.returns-clause-ok
returns-clause-ok c = class_file c.args.bytes.now c.read_uncounted.result c.read_uncounted.ensures.says c.read_uncounted.ensures.faults

pub returns-clause-err : goal.returns-clause-err
returns-clause-err c = no_class_file c.args.bytes.now c.read_uncounted.result c.read_uncounted.ensures.says c.read_uncounted.ensures.reads
