-- The method that a start enters, in memory.
use Rattle.std.specs.Prelude.{◌≡◌, ◌≢◌, max, Bool, None}
use Rattle.mvm_frame.specs.Calls.{fits}
use Rattle.mvm_frame.specs.Parts.{StackParts, stack_with}
use Rattle.mvm_member.specs.Members.{MemberName}
use Rattle.mvm_isolate.specs.Numbered.{Numbered, name_at}
use Rattle.mvm_current.specs.Frames.{method}
use Rattle.mvm_current.specs.Keys.{runs_of, IsKey}
use Rattle.mvm_current.specs.declared.key.TheConstants.{NO_METHOD}
use Rattle.mvm_starting.specs.declared.firsts.First.{First}
use Rattle.mvm_starting.specs.declared.firsts.Head.{Head}

-- a frame of its key runs the method of these names, and has entered no monitor
pub record IsFirst (n : Numbered) (m : MemberName) (first : First) : Type 0 where
  pub is_key : IsKey n first.key
  pub runs_one : first.key.method ≢ NO_METHOD
  pub unlocked : first.key.lock ≡ None
  pub of_class : name_at n first.key.mirror ≡ m.class
  pub runs : runs_of n first.key 0 ≡ method m.class m.name m.desc

-- a frame of the method fits on a stack whose top frame is left
abbrev pub has_place : Head → StackParts → Bool
has_place head s = fits (max head.locals 1) head.depth (stack_with s.rest.below.callers s.rest.below.most s.rest.below.words)
