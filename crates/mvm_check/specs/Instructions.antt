-- The rules of one instruction (JVM Specification 4.9.1, 4.9.2).
use Rattle.std.specs.Prelude.{ℕ, max, ℤ, List, [], ◌∷◌, length, map, Bool, true, false, not, nat_le, ◌||◌, ◌==◌, if◌then◌else◌, Result, Ok, Err}
use Rattle.std.specs.List.{list_all}
use Rattle.mvm_insn.specs.Insns.{insn}
use Rattle.mvm_insn.specs.Opcodes.{between}
use Rattle.mvm_insn.specs.declared.opcodes.TheConstants as jvm
use Rattle.mvm_insn.specs.declared.fault.InsnFault.{InsnFault}
use Rattle.mvm_insn.specs.declared.fault.InsnFault.TheVariants.{OffEnd as cut_off, Unknown, Unsupported as foreign, Switch}
use Rattle.mvm_insn.specs.declared.insn.At.{At}
use Rattle.mvm_insn.specs.declared.insn.Insn.{Insn}
use Rattle.mvm_insn.specs.declared.insn.Insn.TheVariants.{Plain, Jump, Choice}
use Rattle.mvm_insn.specs.declared.switch_rows.SwitchRow.{SwitchRow}
use Rattle.mvm_layout.specs.declared.parts.Item.{Item}
use Rattle.mvm_layout.specs.declared.parts.Code.{Code}
use Rattle.mvm_base.specs.Rules.{expect, ◌and_then◌}
use Rattle.mvm_check.specs.Starts.{starts_of, begins}
use Rattle.mvm_check.specs.Operands.{has_operands}
use Rattle.mvm_check.specs.Locals.{locals_of}
use Rattle.mvm_check.specs.declared.fault.CheckKind.{CheckKind}
use Rattle.mvm_check.specs.declared.fault.CheckKind.TheVariants.{BadOpcode, Unsupported, BadSwitch, BadTarget, BadIndex, BadLocal, OffEnd}

-- ---- an instruction stands at the place

abbrev pub kind_of : InsnFault → CheckKind
kind_of (Unknown op) = BadOpcode
kind_of cut_off = BadOpcode
kind_of (foreign op) = Unsupported
kind_of Switch = BadSwitch

abbrev pub stood : Result At InsnFault → Result (Unit {0}) CheckKind
stood (Ok x) = Ok tt
stood (Err fault) = Err (kind_of fault)

unfoldable pub stands : List ℕ → ℕ → Result (Unit {0}) CheckKind
stands code pc = stood (insn code pc)

-- ---- it keeps the rules

abbrev pub targets_of_rows : List SwitchRow → List ℤ
targets_of_rows rows = map (λ row. row.target) rows

-- where an instruction may lead but to the one behind it: a branch to its target, a switch to its default and to each of its rows
abbrev pub targets_of : Insn → List ℤ
targets_of (Jump op target) = target ∷ []
targets_of (Choice op choice) = choice.otherwise ∷ targets_of_rows choice.rows
targets_of _ = []

-- each target is the start of an instruction
abbrev pub has_targets : List ℕ → Insn → Bool
has_targets starts x = list_all (begins starts) (targets_of x)

-- a goto, a switch, a return or athrow: behind it the code may end
unfoldable pub is_last : Insn → Bool
is_last (Jump op target) = op == jvm.GOTO || op == jvm.GOTO_W
is_last (Choice op choice) = true
is_last (Plain op) = between jvm.IRETURN jvm.LRETURN op || between jvm.ARETURN jvm.RETURN op || op == jvm.ATHROW
is_last _ = false

-- how many local variables there have to be at a place: at the first also those that take the parameters
abbrev pub locals_at : ℕ → ℕ → Insn → ℕ
locals_at parameters pc x = if pc == 0 then max parameters (locals_of x) else locals_of x

-- they are there
abbrev pub has_locals : ℕ → Code → ℕ → Insn → Bool
has_locals parameters code pc x = nat_le (locals_at parameters pc x) code.max_locals

-- the code goes on behind it, or may end there
abbrev pub stays_in_code : Code → At → Bool
stays_in_code code x = not (x.next == length code.bytes) || is_last x.insn

unfoldable pub kept : List Item → ℕ → Code → ℕ → At → Result (Unit {0}) CheckKind
kept pool parameters code pc x =
    expect (has_targets (starts_of code.bytes) x.insn) BadTarget
    and_then expect (has_operands pool x.insn) BadIndex
    and_then expect (has_locals parameters code pc x.insn) BadLocal
    and_then expect (stays_in_code code x) OffEnd

-- where none stands, the fault was told before
abbrev pub kept_if_stood : List Item → ℕ → Code → ℕ → Result At InsnFault → Result (Unit {0}) CheckKind
kept_if_stood pool parameters code pc (Ok x) = kept pool parameters code pc x
kept_if_stood pool parameters code pc (Err fault) = Ok tt

unfoldable pub keeps : List Item → ℕ → Code → ℕ → Result (Unit {0}) CheckKind
keeps pool parameters code pc = kept_if_stood pool parameters code pc (insn code.bytes pc)
