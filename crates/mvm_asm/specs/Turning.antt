-- What private calls say of the class that grows line by line.
use Rattle.std.specs.Prelude.{◌≡◌, Option, Result, Ok, Err}
use Rattle.mvm_statement.specs.declared.fault.AsmKind.{AsmKind}
use Rattle.mvm_statement.specs.declared.statement.Statement.{Statement}
use Rattle.mvm_listing.specs.declared.fault.StepFault.{StepFault}
use Rattle.mvm_listing.specs.declared.fault.StepFault.TheVariants.{Kind, OutOfMemory}
use Rattle.mvm_listing.specs.Assembly.{State, phase_behind}
use Rattle.mvm_asm.specs.declared.growing.Growing.{Growing}

-- what has been made so far
abbrev pub state_of : Growing → State
state_of g = record {
  phase = g.phase;
  parts = record {
    minor = g.minor;
    major = g.major;
    pool = g.pool;
    flags = g.flags;
    this_class = g.this_class;
    super_class = g.super_class;
    interfaces = g.interfaces;
    fields = g.fields;
    methods = g.methods;
  };
  block = g.block;
  unfit = g.unfit;
}

-- the state that is left is what the definition gives, or the fault is; of want of memory nothing is said
abbrev pub Turns : {A : Type 0} → Result A StepFault → Result State AsmKind → State → Type 0
Turns (Ok x) definition new = definition ≡ Ok new
Turns (Err (Kind kind)) definition new = definition ≡ Err kind
Turns (Err OutOfMemory) definition new = Unit {0}

-- where a line has a fault this holds
abbrev pub OnFault : {A : Type 0} → Result A StepFault → Type 0 → Type 0
OnFault (Ok x) p = Unit {0}
OnFault (Err (Kind kind)) p = p
OnFault (Err OutOfMemory) p = Unit {0}

-- the code that is open, the lines of those behind it that do not fit, and the phase are as before
abbrev pub IsKept : State → State → Type 0
IsKept old new = (new.phase ≡ old.phase) × (new.block ≡ old.block) × (new.unfit ≡ old.unfit)

-- the same, but for the phase, which is the one behind the line
abbrev pub IsBehind : Result (Option Statement) AsmKind → State → State → Type 0
IsBehind said old new = (new.phase ≡ phase_behind said old.phase) × (new.block ≡ old.block) × (new.unfit ≡ old.unfit)
