-- What an attempt is told, and what it leaves, of an isolate and a stack in memory.
use Rattle.std.specs.Prelude.{◌≡◌, ◌<◌, ℕ, Bool, ◌&&◌, nat_lt, ◌==◌, ◌/◌, ◌%◌, ◌^◌, Result, Ok, Err}
use Rattle.mvm_base.specs.Answers.{Fails}
use Rattle.mvm_frame.specs.Parts.{StackParts}
use Rattle.mvm_isolate.specs.Numbered.{Numbered, look_of, named}
use Rattle.mvm_isolate.specs.declared.stop.Stop.{Stop}
use Rattle.mvm_isolate.specs.declared.stop.Stop.TheVariants.{OutOfMemory}
use Rattle.mvm_current.specs.Keys.{frames_named}
use Rattle.mvm_object.specs.Coming.{doing_named, IsState}
use Rattle.mvm_object.specs.Going.{Context, After, Went}
use Rattle.mvm_object.specs.Going as after
use Rattle.mvm_invoke.specs.declared.left.Told.{Told}
use Rattle.mvm_invoke.specs.declared.left.After.{After as LeftAfter}
use Rattle.mvm_invoke.specs.declared.left.After.TheVariants as left
use Rattle.mvm_invoke.specs.declared.left.Left.{Left}

-- ---- what it is told

-- the thread of a number, one of 64, has ended
unfoldable pub has_bit : ℕ → ℕ → Bool
has_bit bits number = nat_lt number 64 && (bits / 2 ^ number) % 2 == 1

-- what a thread of this isolate looks up and is told
pub record IsTold (c : Context) (n : Numbered) (told : Told) : Type 0 where
  pub look : c.look ≡ look_of n
  pub launch : c.launch ≡ n.env.launch
  pub number : c.thread ≡ told.thread
  pub threads : c.threads ≡ told.threads
  pub ended : (other : ℕ) → c.has_ended other ≡ has_bit told.ended other
  pub links : c.links ≡ n.env.links
  pub object : c.object ≡ told.object

-- ---- what it leaves

-- what is left to be done, by names
abbrev pub after_named : Numbered → LeftAfter → After
after_named n (left.Does state) = after.does (doing_named n state)
after_named n (left.Starts object) = after.starts object
after_named n (left.Notifies object all) = after.notifies object all
after_named n (left.Acts act state) = after.acts act (doing_named n state)
after_named n (left.EndsUncaught object) = after.ends_uncaught object
after_named n (left.Exits status) = after.exits status
after_named n (left.Limited kind) = after.limited kind

abbrev pub left_named : Numbered → StackParts → Left → Went
left_named n s l = record { isolate = named n; frames = frames_named n s; object = l.object; after = after_named n l.after }

-- a class that a thread waits for is one of the isolate
abbrev pub IsAfter : Numbered → LeftAfter → Type 0
IsAfter n (left.Does state) = IsState n state
IsAfter n (left.Acts act state) = IsState n state
IsAfter n _ = Unit {0}

-- another thread begins only where there are fewer than there may be
abbrev pub MayBegin : ℕ → ℕ → LeftAfter → Type 0
MayBegin threads most (left.Starts object) = threads < most
MayBegin threads most _ = Unit {0}

-- The attempt leaves what the definition says, stops for what it says, or memory ran out.
abbrev pub Leaves : Result Left Stop → Result Went Stop → Numbered → StackParts → Type 0
Leaves (Ok l) definition n s = definition ≡ Ok (left_named n s l)
Leaves (Err stop) definition n s = Fails OutOfMemory stop definition
