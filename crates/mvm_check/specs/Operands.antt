-- Entries of the constant pool as operands of instructions, and what else stands with them (JVM Specification 4.9.1).
use Rattle.std.specs.Prelude.{ℕ, zero, suc, ◌+◌, List, [], ◌∷◌, Bool, true, false, not, ◌&&◌, ◌||◌, ◌==◌, if◌then◌else◌, Option, Some, None, Result, Ok, Err, codes}
use Rattle.std.specs.Option.{option_and_then, option_map}
use Rattle.std.specs.Str.{bytes_eq}
use Rattle.mvm_base.specs.Descriptor.{method_of, slots}
use Rattle.mvm_base.specs.declared.descriptor.MethodShape.{MethodShape}
use Rattle.mvm_base.specs.declared.descriptor.DescFault.{DescFault}
use Rattle.mvm_layout.specs.declared.parts.Item.{Item}
use Rattle.mvm_layout.specs.declared.parts.Item.TheVariants.{Utf8}
use Rattle.mvm_layout.specs.Pool.{entry, is_loadable, is_long, is_field, is_method, is_interface_method, is_class, text, class_name, member, name_and_type}
use Rattle.mvm_insn.specs.Opcodes.{between}
use Rattle.mvm_insn.specs.declared.opcodes.TheConstants as jvm
use Rattle.mvm_check.specs.declared.array_types.TheConstants as array
use Rattle.mvm_check.specs.declared.letters.TheConstants as unit
use Rattle.mvm_insn.specs.declared.insn.Insn.{Insn}
use Rattle.mvm_insn.specs.declared.insn.Insn.TheVariants.{Pool, Interface, NewArray, Multi}

-- ---- names and descriptors of methods (4.4.2, 4.4.6)

-- of a method by its index: the indices of its name, and of its descriptor
abbrev pub name_and_type_of : List Item → ℕ → Option (ℕ × ℕ)
name_and_type_of pool index = option_and_then (λ (class, at). name_and_type pool at) (member pool index)

abbrev pub method_name : List Item → ℕ → Option (List ℕ)
method_name pool index = option_and_then (λ (name, desc). text pool name) (name_and_type_of pool index)

abbrev pub method_desc : List Item → ℕ → Option ℕ
method_desc pool index = option_map (λ (name, desc). desc) (name_and_type_of pool index)

abbrev pub slots_in : Result MethodShape DescFault → Option ℕ
slots_in (Ok method) = Some (slots method.params)
slots_in (Err fault) = None

-- the slots that the parameters of a method descriptor take, a long two (4.3.3)
abbrev pub slots_of_item : Item → Option ℕ
slots_of_item (Utf8 text) = slots_in (method_of text)
slots_of_item _ = None

-- the same, by the index of the descriptor
unfoldable pub parameter_slots : List Item → ℕ → Option ℕ
parameter_slots pool desc = option_and_then slots_of_item (entry pool desc)

-- a name that begins with < is `<init>`, where it is invoked as special
abbrev pub is_invocable : Bool → Option (List ℕ) → Bool
is_invocable special (Some (letter ∷ name)) = not (letter == unit.LESS_THAN) || (special && bytes_eq (letter ∷ name) (codes "<init>"))
is_invocable special (Some []) = true
is_invocable special None = false

-- ---- names of classes (4.4.1)

-- the name begins with so many [
abbrev pub has_dimensions : ℕ → List ℕ → Bool
has_dimensions zero name = true
has_dimensions (suc n) [] = false
has_dimensions (suc n) (letter ∷ name) = letter == unit.LEFT_BRACKET && has_dimensions n name

-- there is a class of this index, and its name begins with so many [
abbrev pub names_dimensions : ℕ → Option (List ℕ) → Bool
names_dimensions n (Some name) = has_dimensions n name
names_dimensions n None = false

-- ---- operands

-- ldc and ldc_w, and ldc2_w
unfoldable pub constant_operand : ℕ → Option Item → Bool
constant_operand op item = if op == jvm.LDC2_W then is_long item else is_loadable item

-- invokevirtual, invokespecial, and invokestatic
unfoldable pub method_operand : List Item → ℕ → ℕ → Bool
method_operand pool op index =
    (is_method (entry pool index) || (not (op == jvm.INVOKEVIRTUAL) && is_interface_method (entry pool index)))
    && is_invocable (op == jvm.INVOKESPECIAL) (method_name pool index)

-- new of no array, anewarray of fewer than 255 dimensions, checkcast, and instanceof
unfoldable pub class_operand : List Item → ℕ → ℕ → Bool
class_operand pool op index =
    is_class (entry pool index)
    && not (op == jvm.NEW && names_dimensions 1 (class_name pool index))
    && not (op == jvm.ANEWARRAY && names_dimensions 255 (class_name pool index))

unfoldable pub pool_operand : List Item → ℕ → ℕ → Bool
pool_operand pool op index =
    if between jvm.LDC jvm.LDC2_W op then constant_operand op (entry pool index) else (
    if between jvm.GETSTATIC jvm.PUTFIELD op then is_field (entry pool index) else (
    if between jvm.INVOKEVIRTUAL jvm.INVOKESTATIC op then method_operand pool op index else
    class_operand pool op index))

-- the count is the slots of the arguments, the receiver among them
abbrev pub is_count : ℕ → Option ℕ → Bool
is_count count (Some slots) = count == slots + 1
is_count count None = false

-- invokeinterface
unfoldable pub interface_operand : List Item → ℕ → ℕ → ℕ → Bool
interface_operand pool index count last =
    is_interface_method (entry pool index)
    && is_invocable false (method_name pool index)
    && is_count count (option_and_then (parameter_slots pool) (method_desc pool index))
    && last == 0

-- boolean, char, byte, short, int and long (6.5, newarray)
abbrev pub is_item_kind : ℕ → Bool
is_item_kind kind = between array.T_BOOLEAN array.T_CHAR kind || between array.T_BYTE array.T_LONG kind

-- multianewarray
unfoldable pub multi_operand : List Item → ℕ → ℕ → Bool
multi_operand pool index dims =
    is_class (entry pool index) && not (dims == 0) && names_dimensions dims (class_name pool index)

-- what the operands of an instruction name is what its opcode wants
unfoldable pub has_operands : List Item → Insn → Bool
has_operands pool (Pool op index) = pool_operand pool op index
has_operands pool (Interface index count last) = interface_operand pool index count last
has_operands pool (NewArray kind) = is_item_kind kind
has_operands pool (Multi index dims) = multi_operand pool index dims
has_operands pool _ = true
