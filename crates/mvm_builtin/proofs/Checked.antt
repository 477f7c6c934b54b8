-- The code of the built-in classes keeps the static constraints, by computation.
use Rattle.std.proofs.Common.{◌≡◌, ℕ, List, Option, Some, None, Ok, refl, subst}
use Rattle.std.specs.Prelude.{IfSome}
use Rattle.std.specs.Option.{option_map}
use Rattle.mvm_layout.specs.declared.parts.Parts.{Parts}
use Rattle.mvm_check.specs.Check.{covers, is_row as is_row_check, row_rule, stands_rule, keeps_rule, code_rule, method_rule, check_of}
use Rattle.mvm_check.specs.Instructions.{stands, is_last, kept, keeps}
use Rattle.mvm_check.specs.Locals.{locals_of_plain, locals_of}
use Rattle.mvm_check.specs.Operands.{parameter_slots, constant_operand, method_operand, class_operand, pool_operand, interface_operand, multi_operand, has_operands}
use Rattle.mvm_check.specs.Starts.{starts_of}
use Rattle.mvm_insn.specs.Insns.{byte_number, short_number, byte_pool, short_pool, byte_local, short_local, increment, wide_increment, short_jump, long_jump, invocation, items, dimensions, widened_by, widened, table_rows, table_parts, table as table_insns, lookup_rows, lookup_parts, lookup, operands, read_at, insn}
use Rattle.mvm_insn.specs.Opcodes.{operands_of, mnemonic_of}
use Rattle.mvm_insn.specs.Rows.{word, rows as rows_rows}
use Rattle.mvm_base.specs.Place.{run}
use Rattle.mvm_base.specs.Descriptor.{field_of, method_of, base_in, slots_of}
use Rattle.mvm_builtin.specs.Table.{Row, rows, named}
use Rattle.mvm_builtin.specs.Classes.{with_code, made, builtin}
use Rattle.mvm_builtin.proofs.Found.{EachRow, found_named}

abbrev IsChecked : Row → Type 0
IsChecked row = check_of (made row) ≡ Ok tt

all_checked : EachRow IsChecked rows
unfolding covers is_row_check row_rule stands_rule keeps_rule code_rule method_rule check_of stands is_last kept keeps locals_of_plain locals_of parameter_slots constant_operand method_operand class_operand pool_operand interface_operand multi_operand has_operands starts_of byte_number short_number byte_pool short_pool byte_local short_local increment wide_increment short_jump long_jump invocation items dimensions widened_by widened table_rows table_parts table_insns lookup_rows lookup_parts lookup operands read_at insn operands_of mnemonic_of word rows_rows run field_of method_of base_in slots_of rows made with_code
all_checked = (refl, (refl, (refl, (refl, (refl, (refl, (refl, (refl, (refl, (refl, (refl, (refl, (refl, (refl, (refl, (refl, (refl, (refl, (refl, (refl, (refl, (refl, (refl, (refl, (refl, (refl, (refl, (refl, (refl, (refl, (refl, (refl, (refl, (refl, (refl, (refl, (refl, (refl, (refl, (refl, (refl, (refl, (refl, (refl, (refl, (refl, (refl, (refl, tt))))))))))))))))))))))))))))))))))))))))))))))))

pub checked_so : (name : List ℕ) (file : Parts) → builtin name ≡ Some file → check_of file ≡ Ok tt
unfolding builtin
checked_so name file e = by (named name rows) (found_named IsChecked name rows all_checked) e
  where
    by : (found : Option Row) → IfSome found IsChecked → option_map made found ≡ Some file → check_of file ≡ Ok tt
    by None k e = absurd cc
    by (Some row) k e = let same : made row ≡ file = cc in subst (λ (p : Parts). check_of p ≡ Ok tt) same k
