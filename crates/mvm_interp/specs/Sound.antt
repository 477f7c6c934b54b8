-- What every task in memory keeps.
use Rattle.std.specs.Prelude.{◌≡◌, ◌≤◌, ℕ, List, [], length, take, drop, All}
use Rattle.mvm_frame.specs.Parts.{stack_with}
use Rattle.mvm_isolate.specs.Numbered.{Numbered}
use Rattle.mvm_current.specs.Keys.{AreKeys, IsStackOf}
use Rattle.mvm_current.specs.declared.limits.TheConstants.{MOST_FRAME_WORDS}
use Rattle.mvm_object.specs.Coming.{IsState}
use Rattle.mvm_thread.specs.State.{uses_from}
use Rattle.mvm_interp.specs.Names.{threads_named, ended_bits, closed_in}
use Rattle.mvm_interp.specs.declared.row.ThreadRow.{ThreadRow}

-- the keys of its frames are keys of the isolate, there may be so many frames, and the class that it waits for is one of the isolate
pub record IsRow (n : Numbered) (row : ThreadRow) : Type 0 where
  pub keys : AreKeys n row.stack
  pub limits : IsStackOf n.env.launch.limits row.stack
  pub state : IsState n row.state

-- no thread has this row yet
abbrev pub IsIdle : Numbered → ThreadRow → Type 0
IsIdle n row = row.stack ≡ stack_with [] n.env.launch.limits.frames MOST_FRAME_WORDS

pub record IsTask (n : Numbered) (rows : List ThreadRow) (count ended steps : ℕ) : Type 0 where
  pub sound : All (IsRow n) rows
  pub idle : All (IsIdle n) (drop count rows)
  -- as many rows as there may be threads
  pub most : length rows ≡ n.env.launch.limits.threads
  pub few : n.env.launch.limits.threads ≤ 64
  pub frames : 1 ≤ n.env.launch.limits.frames
  pub begun : count ≤ length rows
  pub bits : ended ≡ ended_bits (take count rows)
  -- on each link stands which thread sends and which receives
  pub links : n.env.links ≡ uses_from 0 (threads_named n count rows) (closed_in n.env.links)
  pub within : steps ≤ n.env.launch.limits.steps
