-- What a frame is for, as a call tells it.
use Rattle.std.specs.Prelude.{◌≡◌, ℕ, List}
use Rattle.mvm_isolate.specs.Numbered.{Numbered, name_at, IsClass}
use Rattle.mvm_current.specs.Frames.{Runs, method, starting, initialising}
use Rattle.mvm_current.specs.declared.frames.Running.{Running}
use Rattle.mvm_current.specs.declared.frames.Running.TheVariants.{Method, Start, Initialiser}

-- the names of a method
pub record IsMethodRun (runs : Runs) : Type 0 where
  pub class : List ℕ
  pub name : List ℕ
  pub desc : List ℕ
  pub is : runs ≡ method class name desc

pub record IsInitialiserRun (n : Numbered) (runs : Runs) (mirror : ℕ) : Type 0 where
  pub class : IsClass n mirror
  pub is : runs ≡ initialising (name_at n mirror)

abbrev pub IsRunning : Numbered → Runs → Running → Type 0
IsRunning n runs Method = IsMethodRun runs
IsRunning n runs Start = runs ≡ starting
IsRunning n runs (Initialiser mirror) = IsInitialiserRun n runs mirror
