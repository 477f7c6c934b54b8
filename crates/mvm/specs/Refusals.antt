-- What a refusal reads as.
use Rattle.std.specs.Prelude.{ℕ, List, ◌++◌, codes, decimal}
use Rattle.mvm_layout.specs.declared.fault.ClassFault.{ClassFault}
use Rattle.mvm_layout.specs.declared.fault.ClassFault.TheVariants.{Magic, Version, Truncated, Trailing, Pool, Shape, Unsupported, OutOfMemory}
use Rattle.mvm_statement.specs.declared.fault.AsmKind.{AsmKind}
use Rattle.mvm_statement.specs.declared.fault.AsmKind.TheVariants as kinds
use Rattle.mvm_listing.specs.declared.fault.AsmFault.{AsmFault}
use Rattle.mvm_listing.specs.declared.fault.AsmFault.TheVariants as asm_fault
use Rattle.mvm.specs.declared.refusal.Refusal.{Refusal}
use Rattle.mvm.specs.declared.refusal.Refusal.TheVariants.{Usage, ReadFault, InputTooLong, Class, Assembly, WriteFault}

abbrev pub class_fault_text : ClassFault → List ℕ
class_fault_text Magic = codes "class: magic"
class_fault_text (Version major) = codes "class: version " ++ decimal major
class_fault_text (Truncated place) = codes "class: truncated " ++ decimal place
class_fault_text (Trailing place) = codes "class: trailing " ++ decimal place
class_fault_text (Pool index) = codes "class: pool " ++ decimal index
class_fault_text (Shape place) = codes "class: shape " ++ decimal place
class_fault_text (Unsupported place) = codes "class: unsupported " ++ decimal place
class_fault_text OutOfMemory = codes "out of memory"

abbrev pub line_fault_text : AsmKind → List ℕ
line_fault_text kinds.Word = codes "word"
line_fault_text kinds.Operand = codes "operand"
line_fault_text kinds.Range = codes "range"
line_fault_text kinds.Label = codes "label"
line_fault_text kinds.Order = codes "order"
line_fault_text kinds.Pool = codes "pool"

abbrev pub assembly_fault_text : AsmFault → List ℕ
assembly_fault_text (asm_fault.At number kind) = codes "line " ++ decimal number ++ codes ": " ++ line_fault_text kind
assembly_fault_text (asm_fault.Refused fault) = class_fault_text fault
assembly_fault_text asm_fault.OutOfMemory = codes "out of memory"

unfoldable pub refusal_text_of : Refusal → List ℕ
refusal_text_of Usage = codes "usage: mvm run [--workers N] [--quantum Q] [--statics] | asm | dump | gen N"
refusal_text_of ReadFault = codes "read failed"
refusal_text_of InputTooLong = codes "input too long"
refusal_text_of (Class fault) = class_fault_text fault
refusal_text_of (Assembly fault) = assembly_fault_text fault
refusal_text_of (WriteFault count) = codes "write failed after " ++ decimal count ++ codes " bytes"
