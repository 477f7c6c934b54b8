-- What is kept of a call that was made: each part is what the definitions give, so that the next attempt looks nothing up.
use Rattle.std.specs.Prelude.{◌≡◌, ◌≢◌, ℕ, List, All, true, false, max, ◌∷◌, if◌then◌else◌, Some, None, Result, Ok, Err}
use Rattle.mvm_base.specs.Answers.{◌>>=◌}
use Rattle.mvm_base.specs.declared.descriptor.MethodShape.{MethodShape}
use Rattle.mvm_base.specs.declared.value.Kind.{Kind}
use Rattle.mvm_layout.specs.Flags.{has_flag}
use Rattle.mvm_layout.specs.declared.flags.TheConstants as flag
use Rattle.mvm_member.specs.Members.{MemberName}
use Rattle.mvm_native.specs.declared.out.Thrown.TheVariants.{StackOverflowError}
use Rattle.mvm_set.specs.declared.found.MethodAt.{MethodAt}
use Rattle.mvm_isolate.specs.Isolate.{stopped}
use Rattle.mvm_isolate.specs.Numbered.{Numbered, look_of, name_at, IsClass}
use Rattle.mvm_isolate.specs.declared.stop.Stop.{Stop}
use Rattle.mvm_current.specs.Arguments.{arguments, kinds_of, shape_of, widths}
use Rattle.mvm_current.specs.Frames.{method, Frame, has_room}
use Rattle.mvm_current.specs.Keys.{runs_of, IsKey}
use Rattle.mvm_current.specs.Values.{done_of}
use Rattle.mvm_current.specs.declared.key.TheConstants.{NO_METHOD}
use Rattle.mvm_object.specs.Going.{Context, Point, Went}
use Rattle.mvm_invoke.specs.Calls.{call_target, framed, head_in}
use Rattle.mvm_invoke.specs.declared.heads.Size.{Size}
use Rattle.mvm_calling.specs.declared.static_call.StaticCall.{StaticCall}

-- ---- what a call does whose method is known: it has code, and is not synchronized

abbrev pub framed_if_room : Context → MemberName → Size → ℕ → Point → Result Went Stop
framed_if_room c m size slots p =
    if has_room c.launch.limits (max size.locals slots) size.depth (p.frame ∷ p.callers) then Ok (framed c m size None slots p) else stopped StackOverflowError

-- the arguments are there, and there is room: then the frame is made
unfoldable pub known_called : Context → MemberName → Size → List Kind → Point → Result Went Stop
known_called c m size kinds p = done_of (arguments kinds p.frame.body.operands.slots) >>= λ done. framed_if_room c m size (widths kinds) p

-- ---- what is kept

-- in each frame of a method of the class of this number, this index names this method
pub record IsTarget (n : Numbered) (home index : ℕ) (m : MemberName) : Type 0 where
  pub place : MethodAt
  pub is_target : (name desc : List ℕ) (f : Frame) → f.runs ≡ method (name_at n home) name desc → call_target (look_of n) true index f ≡ Ok (place, m)

-- the arguments of a static method of this descriptor are of these kinds
pub record AreKindsOf (desc : List ℕ) (kinds : List Kind) : Type 0 where
  pub shape : MethodShape
  pub is_shape : shape_of desc ≡ Ok shape
  pub are_kinds : kinds_of true shape ≡ kinds

-- the method has code of this size, and is not synchronized
pub record HasSize (n : Numbered) (m : MemberName) (size : Size) : Type 0 where
  pub flags : ℕ
  pub is_head : head_in (look_of n) m ≡ Ok (record { flags = flags; size = Some size })
  pub plain : has_flag flag.SYNCHRONIZED flags ≡ false

pub record IsStaticCall (n : Numbered) (k : StaticCall) : Type 0 where
  pub member : MemberName
  pub there : IsClass n k.home
  pub target : IsTarget n k.home k.index member
  pub is_key : IsKey n k.key
  pub runs_method : k.key.method ≢ NO_METHOD
  pub unlocked : k.key.lock ≡ None
  pub of_class : name_at n k.key.mirror ≡ member.class
  pub runs : runs_of n k.key 0 ≡ method member.class member.name member.desc
  pub has_size : HasSize n member k.size
  pub has_kinds : AreKindsOf member.desc k.kinds
  pub are_slots : widths k.kinds ≡ k.slots

abbrev pub AreCalls : Numbered → List StaticCall → Type 0
AreCalls n calls = All (IsStaticCall n) calls
