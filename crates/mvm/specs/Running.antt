-- A class file run alone: as the one class of a set, beside the built-in classes, by one isolate with the limits that every isolate has by default.
use Rattle.std.specs.Prelude.{◌≡◌, ◌<◌, ℕ, zero, suc, List, [], ◌∷◌, map, Bool, true, false, ◌&&◌, Option, Some, None, is_none}
use Rattle.mvm_history.specs.Limits.{defaults}
use Rattle.mvm_history.specs.declared.end.End.{End}
use Rattle.mvm_history.specs.declared.end.End.TheVariants.{Stalled}
use Rattle.mvm_history.specs.declared.launch.Launch.{Launch}
use Rattle.mvm_table.specs.Files.{File}
use Rattle.mvm_thread.specs.State.{State, can_step, opened}
use Rattle.mvm_thread.specs.Step.{step}
use Rattle.mvm_interp.specs.Names.{uncaught_named}
use Rattle.mvm.specs.declared.outcome.Block.{Block}

-- the class file under its own name
abbrev pub files_of : List ℕ → List ℕ → List (List File)
files_of name bytes = (record { name = name; bytes = bytes } ∷ []) ∷ []

-- how many attempts a turn of it has; nothing depends on it where there is one isolate
abbrev pub QUANTUM : ℕ
QUANTUM = 10000

-- what the isolate is made from
abbrev pub alone : List ℕ → Launch
alone name = record { number = 0; count = 1; set = 0; main = name; args = []; start = true; limits = defaults; quantum = QUANTUM; links = [] }

-- the state after so many attempts of the first thread
abbrev pub after : List (List File) → State → ℕ → State
after files s zero = s
after files s (suc n) = step files (after files s n) 0

-- it has not ended, and the first thread can make an attempt
unfoldable pub goes_on : State → Bool
goes_on s = is_none s.end && can_step s 0

-- the one state is what so many attempts leave of the other, and no more can be made
pub record RunsOn (files : List (List File)) (old new : State) : Type 0 where
  pub attempts : ℕ
  pub left : new ≡ after files old attempts
  pub going : (n : ℕ) → n < attempts → goes_on (after files old n) ≡ true
  pub rests : goes_on new ≡ false

-- how it ended: where its thread can make no attempt any more, it is stalled
abbrev pub end_or_stalled : Option End → End
end_or_stalled (Some end) = end
end_or_stalled None = Stalled

-- what is left of an isolate of this name that came to this state
pub record IsBlockOf (name : List ℕ) (s : State) (block : Block) : Type 0 where
  pub main : block.main ≡ name
  pub output : block.output ≡ s.isolate.output
  pub uncaught : map uncaught_named block.uncaught ≡ s.uncaught
  pub end : block.end ≡ end_or_stalled s.end

-- the block is what is left of the run of the class of a name, over the files of one set
pub record RunsOf (files : List (List File)) (name : List ℕ) (block : Block) : Type 0 where
  pub state : State
  pub run : RunsOn files (opened (alone name)) state
  pub left : IsBlockOf name state block

-- the block is what is left of the run of a class file of this name
abbrev pub RunsTo : List ℕ → List ℕ → Block → Type 0
RunsTo name bytes block = RunsOf (files_of name bytes) name block
