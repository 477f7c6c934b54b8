use Rattle.std.proofs.Common.{◌≡◌, ◌++◌, drop}
use Rattle.std.specs.Prelude.{flat_map, IsTrue}
use Rattle.std.specs.List.{list_all}
use Rattle.mvm_layout.specs.declared.parts.Member.{Member}
use Rattle.mvm_classfile.specs.Writing.{has_few_bytes}
use Rattle.mvm_disassembler.specs.Steps.{method_text}
use Rattle.mvm_disassembler.proofs.write_class.push_methods.Given as goal

-- with the methods that are left all are written, and each code is short
abbrev pub invariant-loop-method : goal.invariant-loop-method
invariant-loop-method l = record {
  few : IsTrue (list_all (λ (m : Member). has_few_bytes m.code) (drop l.method-index l.methods));
  added : l.out ++ flat_map (method_text l.pool) (drop l.method-index l.methods) ≡ l.initial.out ++ flat_map (method_text l.pool) l.methods;
}
