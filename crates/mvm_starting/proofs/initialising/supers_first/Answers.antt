use Rattle.std.proofs.Common.{◌∙◌, ap, sym}
use Rattle.mvm_layout.specs.declared.parts.Parts.{Parts}
use Rattle.mvm_set.specs.Names.{is_interface}
use Rattle.mvm_object.specs.Coming.{point_of}
use Rattle.mvm_starting.proofs.Supers.{none_first}
use Rattle.mvm_starting.proofs.initialising.supers_first.Goals as goal

pub returns-then-is_interface-clause-does : goal.returns-then-is_interface-clause-does
returns-then-is_interface-clause-does g c = λ context go is.
    none_first context c.args.class.now go (point_of c.args.isolate.now c.args.stack.now)
    (ap (λ (file : Parts). is_interface file) (sym c.file.ensures) ∙ sym c.is_interface.ensures ∙ c.if-is_interface.true)
