use Rattle.mvm_base.proofs.Names.{parts_are}
use Rattle.mvm_base.proofs.class_name.is_binary_name.Goals as goal

pub loop-unit-init : goal.loop-unit-init
loop-unit-init c = parts_are c.args.name.now
