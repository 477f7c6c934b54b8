-- What calls promise of the constant pool that they look through or add to.
use Rattle.std.specs.Prelude.{◌≡◌, List, Bool, Some, Result, Ok, Err}
use Rattle.mvm_layout.specs.declared.parts.Item.{Item}
use Rattle.mvm_statement.specs.declared.fault.AsmKind.{AsmKind}
use Rattle.mvm_listing.specs.declared.fault.StepFault.{StepFault}
use Rattle.mvm_listing.specs.declared.fault.StepFault.TheVariants.{Kind, OutOfMemory}
use Rattle.mvm_constants.specs.declared.sought.Sought.{Sought}
use Rattle.mvm_constants.specs.declared.sought.Sought.TheVariants as sought
use Rattle.mvm_listing.specs.Constants.{is_class_of, is_string_of, is_integer_of, is_long_of, is_pair_of, is_member_of}

-- an entry means what is sought
abbrev pub means : List Item → Sought → Item → Bool
means pool (sought.Class wanted) item = is_class_of pool wanted.now item
means pool (sought.Str wanted) item = is_string_of pool wanted.now item
means pool (sought.Integer wanted) item = is_integer_of wanted item
means pool (sought.Long wanted) item = is_long_of wanted item
means pool (sought.Pair name desc) item = is_pair_of pool name.now desc.now (Some item)
means pool (sought.Member kind class name desc) item = is_member_of kind pool class.now name.now desc.now item

-- the value, and what is left, are what the definition gives, or the fault is; of want of memory nothing is said
abbrev pub Goes : {A S : Type 0} → Result A StepFault → Result (A × S) AsmKind → S → Type 0
Goes (Ok x) definition new = definition ≡ Ok (x, new)
Goes (Err (Kind kind)) definition new = definition ≡ Err kind
Goes (Err OutOfMemory) definition new = Unit {0}
