use Rattle.mvm_classfile.proofs.Made.{made}
use Rattle.mvm_classfile.proofs.class_file.ClassFile.from_parts.Goals as goal

pub returns-clause-again : goal.returns-clause-again
returns-clause-again c = made c.args.parts c.rebuild.result c.rebuild.ensures
