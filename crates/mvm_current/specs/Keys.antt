-- How the keys of a stack's frames stand for what the frames run, by names (JVM Specification 2.6).
use Rattle.std.specs.Prelude.{◌≡◌, ◌≢◌, ℕ, List, map, Bool, ◌==◌, if◌then◌else◌, All, Option, Some, None, IfSome, slice_get}
use Rattle.mvm_frame.specs.Parts.{Below, StackParts, frames_of}
use Rattle.mvm_frame.specs.Parts.{Frame as KeyedFrame}
use Rattle.mvm_frame.specs.declared.key.FrameKey.{FrameKey}
use Rattle.mvm_history.specs.declared.limits.Limits.{Limits}
use Rattle.mvm_local.specs.Body.{body_of}
use Rattle.mvm_member.specs.Members.{MemberName, named_in}
use Rattle.mvm_set.specs.Members.{method_at}
use Rattle.mvm_set.specs.declared.class.Lineage.{Lineage}
use Rattle.mvm_isolate.specs.Numbered.{Numbered, class_at, name_at, IsClass}
use Rattle.mvm_current.specs.Frames.{Runs, method, starting, initialising, Frame}
use Rattle.mvm_current.specs.declared.key.TheConstants.{NO_METHOD}
use Rattle.mvm_current.specs.declared.limits.TheConstants.{MOST_FRAME_WORDS}

-- ---- what a key stands for

-- the method of a place among those that a class declares
abbrev pub method_of_place : ℕ → Option Lineage → Option MemberName
method_of_place place (Some class) = named_in class.file (slice_get class.file.methods place)
method_of_place place None = None

abbrev pub runs_method : Option MemberName → Runs
runs_method (Some m) = method m.class m.name m.desc
-- no frame has such a key
runs_method None = starting

-- without a method it is the start of the thread where its pc is 0, and else an initialisation, which is in the stage of its pc
abbrev pub runs_bare : List ℕ → ℕ → Runs
runs_bare class pc = if pc == 0 then starting else initialising class

-- what a frame of this key is for, at this pc
unfoldable pub runs_of : Numbered → FrameKey → ℕ → Runs
runs_of n key pc = if key.method == NO_METHOD then runs_bare (name_at n key.mirror) pc else runs_method (method_of_place key.method (class_at n key.mirror))

-- ---- frames by names

abbrev pub frame_named : Numbered → KeyedFrame → Frame
frame_named n f = record { runs = runs_of n f.key f.pc; lock = f.key.lock; body = record { pc = f.pc; locals = f.locals; operands = f.operands } }

-- the frames of a stack, the top one first
unfoldable pub frames_named : Numbered → StackParts → List Frame
frames_named n s = map (frame_named n) (frames_of s)

abbrev pub runs_by : Numbered → Option FrameKey → ℕ → Runs
runs_by n (Some key) pc = runs_of n key pc
runs_by n None pc = starting

abbrev pub lock_by : Option FrameKey → Option ℕ
lock_by (Some key) = key.lock
lock_by None = None

-- the top frame, and the frames below it
abbrev pub top_named : Numbered → StackParts → Frame
top_named n s = record { runs = runs_by n s.rest.below.key s.rest.pc; lock = lock_by s.rest.below.key; body = body_of s }

unfoldable pub callers_named : Numbered → StackParts → List Frame
callers_named n s = map (frame_named n) s.rest.below.callers

-- ---- what is kept of keys

-- The place is the one of the method of its name and descriptor, so that they mean this method (4.6).
abbrev pub IsPlaceOf : ℕ → Lineage → MemberName → Type 0
IsPlaceOf place class m = (named_in class.file (slice_get class.file.methods place) ≡ Some m) × (method_at m.name m.desc class.file ≡ Some place)

abbrev pub IsMethodPlace : ℕ → Option Lineage → Type 0
IsMethodPlace place (Some class) = (m : MemberName) × IsPlaceOf place class m
IsMethodPlace place None = ⊥

pub record IsKey (n : Numbered) (key : FrameKey) : Type 0 where
  pub class : IsClass n key.mirror
  pub method : key.method ≢ NO_METHOD → IsMethodPlace key.method (class_at n key.mirror)

-- the keys of the top frame, if there is one, and of those below it
pub record AreKeysOf (n : Numbered) (below : Below) : Type 0 where
  pub top : IfSome below.key (IsKey n)
  pub callers : All (λ f. IsKey n f.key) below.callers

abbrev pub AreKeys : Numbered → StackParts → Type 0
AreKeys n s = AreKeysOf n s.rest.below

-- the top frame runs a method
abbrev pub RunsMethod : StackParts → Type 0
RunsMethod s = IfSome s.rest.below.key (λ key. key.method ≢ NO_METHOD)

-- ---- how many frames there may be

-- a stack has room for as many frames as the limits allow, and for as many words as frames of a thread may have
pub record IsStackOf (limits : Limits) (s : StackParts) : Type 0 where
  pub frames : s.rest.below.most ≡ limits.frames
  pub words : s.rest.below.words ≡ MOST_FRAME_WORDS
