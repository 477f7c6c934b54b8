use Rattle.std.proofs.Common.{arith}
use Rattle.mvm_classfile.proofs.Answered.{is_class_file}
use Rattle.mvm_classfile.proofs.read.read_file.Goals as goal

pub new-requires : goal.new-requires
new-requires c = is_class_file c.args.bytes.now c.in_ok-parts.parts (λ i. omega (arith, c.type_inv.bytes i)) c.requires c.in_ok-parts.ensures
