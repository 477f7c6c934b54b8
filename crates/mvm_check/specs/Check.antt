-- The static constraints on the code of a class file (JVM Specification 4.9.1, and 4.9.2 but for the types of values).
use Rattle.std.specs.Prelude.{ℕ, List, length, Bool, nat_lt, ◌&&◌, ◌||◌, ◌==◌, Option, Some, None, Result, Ok, Err}
use Rattle.mvm_layout.specs.declared.parts.Item.{Item}
use Rattle.mvm_layout.specs.declared.parts.Row.{Row}
use Rattle.mvm_layout.specs.declared.parts.Code.{Code}
use Rattle.mvm_layout.specs.declared.parts.Member.{Member}
use Rattle.mvm_layout.specs.declared.parts.Parts.{Parts}
use Rattle.mvm_layout.specs.Pool.{entry, is_class}
use Rattle.mvm_base.specs.Rules.{expect, ◌and_then◌, each, each_from}
use Rattle.mvm_check.specs.Starts.{starts_of, is_start}
use Rattle.mvm_check.specs.Operands.{parameter_slots}
use Rattle.mvm_check.specs.Locals.{parameter_locals}
use Rattle.mvm_check.specs.Instructions.{stands, keeps}
use Rattle.mvm_check.specs.declared.fault.CheckFault.{CheckFault}
use Rattle.mvm_check.specs.declared.fault.CheckFault.TheVariants.{Bad}
use Rattle.mvm_check.specs.declared.fault.CheckKind.{CheckKind}
use Rattle.mvm_check.specs.declared.fault.CheckKind.TheVariants.{BadHandler}

-- a fault's kind, told of a method at a place
abbrev pub told : ℕ → ℕ → Result (Unit {0}) CheckKind → Result (Unit {0}) CheckFault
told method at (Ok done) = Ok tt
told method at (Err kind) = Err (Bad method at kind)

-- ---- the exception table (4.7.3)

-- the places that a row covers, from the start of an instruction to the start of another or the end of the code
unfoldable pub covers : List ℕ → ℕ → Row → Bool
covers starts end row =
    nat_lt row.start row.end && is_start starts row.start && (row.end == end || is_start starts row.end)

-- a handler needs a stack for what it catches, which is of any class or of the one that is named
unfoldable pub is_row : List Item → Code → Row → Bool
is_row pool code row =
    nat_lt 0 code.max_stack
    && covers (starts_of code.bytes) (length code.bytes) row
    && is_start (starts_of code.bytes) row.handler
    && (row.catch_class == 0 || is_class (entry pool row.catch_class))

unfoldable pub row_rule : List Item → ℕ → Code → ℕ → Row → Result (Unit {0}) CheckFault
row_rule pool method code number row = told method number (expect (is_row pool code row) BadHandler)

-- ---- the code of a method

unfoldable pub stands_rule : ℕ → List ℕ → ℕ → Result (Unit {0}) CheckFault
stands_rule method code pc = told method pc (stands code pc)

unfoldable pub keeps_rule : List Item → ℕ → ℕ → Code → ℕ → Result (Unit {0}) CheckFault
keeps_rule pool method parameters code pc = told method pc (keeps pool parameters code pc)

-- The code is instructions, one behind the other; each keeps the rules; and so do the rows of the exception table. The code of a
-- class file is never empty; one that is empty has no instruction, and so no fault of one.
unfoldable pub code_rule : List Item → ℕ → ℕ → Code → Result (Unit {0}) CheckFault
code_rule pool method parameters code =
    each (stands_rule method code.bytes) (starts_of code.bytes)
    and_then each (keeps_rule pool method parameters code) (starts_of code.bytes)
    and_then each_from 0 (row_rule pool method code) code.rows

abbrev pub code_rule_if : List Item → ℕ → Member → Option Code → Result (Unit {0}) CheckFault
code_rule_if pool number method None = Ok tt
code_rule_if pool number method (Some code) =
    code_rule pool number (parameter_locals method.flags (parameter_slots pool method.desc)) code

unfoldable pub method_rule : List Item → ℕ → Member → Result (Unit {0}) CheckFault
method_rule pool number method = code_rule_if pool number method method.code

-- ---- the whole

-- the first fault of the methods, in their order
unfoldable pub check_of : Parts → Result (Unit {0}) CheckFault
check_of class = each_from 0 (method_rule class.pool) class.methods
