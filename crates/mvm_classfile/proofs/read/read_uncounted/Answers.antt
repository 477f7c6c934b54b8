use Rattle.mvm_classfile.proofs.Answered.{says, reads, faults}
use Rattle.mvm_classfile.proofs.read.read_uncounted.Goals as goal

pub returns-clause-says : goal.returns-clause-says
returns-clause-says c = says c.args.bytes.now c.read_file.result c.read_file.ensures

pub returns-clause-reads : goal.returns-clause-reads
returns-clause-reads c = reads c.args.bytes.now c.read_file.result c.read_file.ensures

pub returns-clause-faults : goal.returns-clause-faults
returns-clause-faults c = faults c.args.bytes.now c.read_file.result c.read_file.ensures
