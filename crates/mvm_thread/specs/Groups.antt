-- Which instructions go on in one way, and how an instruction of one frame goes on (JVM Specification 6.5).
use Rattle.std.specs.Prelude.{◌≡◌, Option, Some, None, Result, Ok, Err}
use Rattle.mvm_frame.specs.Parts.{StackParts}
use Rattle.mvm_isolate.specs.Numbered.{Numbered}
use Rattle.mvm_isolate.specs.declared.stop.Stop.{Stop}
use Rattle.mvm_local.specs.declared.beyond.BeyondAt.{BeyondAt}
use Rattle.mvm_object.specs.Coming.{point_of, went_of}
use Rattle.mvm_object.specs.Going.{Context, Went, ready}
use Rattle.mvm_thread.specs.Instructions.{further}
use Rattle.mvm_thread.specs.declared.action.Action.{Action}
use Rattle.mvm_thread.specs.declared.action.Action.TheVariants as action

-- instructions on an array with which the thread always goes on
abbrev pub IsArrayAccess : Action → Type 0
IsArrayAccess (action.LoadItem items) = Unit {0}
IsArrayAccess (action.StoreItem items) = Unit {0}
IsArrayAccess action.ArrayLength = Unit {0}
IsArrayAccess _ = ⊥

-- instructions on an entry of the constant pool with which the thread always goes on
abbrev pub IsGoing : Action → Type 0
IsGoing action.Constant = Unit {0}
IsGoing action.GetField = Unit {0}
IsGoing action.PutField = Unit {0}
IsGoing action.NewReferences = Unit {0}
IsGoing action.CheckCast = Unit {0}
IsGoing action.InstanceOf = Unit {0}
IsGoing _ = ⊥

-- those that a class has to be initialised for, which the thread may wait for (5.5)
abbrev pub IsInitialising : Action → Type 0
IsInitialising action.GetStatic = Unit {0}
IsInitialising action.PutStatic = Unit {0}
IsInitialising action.New = Unit {0}
IsInitialising _ = ⊥

-- the instruction is done, or it is told that it reaches beyond its frame
abbrev pub GoesFurther : Context → Result (Option BeyondAt) Stop → Result Went Stop → Numbered → StackParts → Type 0
GoesFurther c (Ok None) definition n s = definition ≡ Ok (went_of n s c.object ready)
GoesFurther c (Ok (Some at)) definition n s = definition ≡ further c at.insn at.next (point_of n s)
GoesFurther c (Err stop) definition n s = definition ≡ Err stop
