-- Returns (JVM Specification 6.5: ireturn, lreturn, areturn, return).
use Rattle.std.specs.Prelude.{◌≡◌, ℕ, List, [], ◌∷◌, Bool, true, false, if◌then◌else◌, Option, Some, None, Result, Ok, slice_get}
use Rattle.std.specs.Option.{option_map}
use Rattle.mvm_base.specs.Answers.{◌>>=◌}
use Rattle.mvm_base.specs.declared.value.Kind.{Kind}
use Rattle.mvm_base.specs.declared.value.Kind.TheVariants as kind
use Rattle.mvm_base.specs.declared.value.Word.{Word}
use Rattle.mvm_insn.specs.Insns.{insn}
use Rattle.mvm_layout.specs.Pool.{text}
use Rattle.mvm_layout.specs.declared.parts.Code.{Code}
use Rattle.mvm_layout.specs.declared.parts.Member.{Member}
use Rattle.mvm_layout.specs.declared.parts.Parts.{Parts}
use Rattle.mvm_set.specs.declared.class.Lineage.{Lineage}
use Rattle.mvm_native.specs.declared.out.Thrown.TheVariants.{VerifyError}
use Rattle.mvm_isolate.specs.Isolate.{stopped}
use Rattle.mvm_isolate.specs.Look.{Look}
use Rattle.mvm_isolate.specs.Members.{or_verify}
use Rattle.mvm_isolate.specs.declared.stop.Stop.{Stop}
use Rattle.mvm_current.specs.Arguments.{shape_of, kind_of_shape}
use Rattle.mvm_current.specs.Code.{behind, method_for, next_of}
use Rattle.mvm_current.specs.Frames.{Runs, method, Frame, pushed, popped, at_place}
use Rattle.mvm_current.specs.Values.{may_push}
use Rattle.mvm_object.specs.Going.{Context, Point, Went, does, ready}
use Rattle.mvm_locking.specs.Monitors.{unlocked}

-- ---- the result

abbrev pub kind_of_result : Runs → Result (Option Kind) Stop
kind_of_result (method class name desc) = shape_of desc >>= λ shape. Ok (option_map kind_of_shape shape.result)
kind_of_result _ = stopped VerifyError

abbrev pub is_kind : Option Kind → Option Kind → Bool
is_kind (Some kind.Int) (Some kind.Int) = true
is_kind (Some kind.Long) (Some kind.Long) = true
is_kind (Some kind.Ref) (Some kind.Ref) = true
is_kind None None = true
is_kind _ _ = false

abbrev pub must_be_result : Option Kind → Option Kind → Result (Unit {0}) Stop
must_be_result wanted given = if is_kind wanted given then Ok tt else stopped VerifyError

-- the value that is returned, if there is one
abbrev pub popped_result : Option Kind → Frame → Result (Option Word) Stop
popped_result (Some kind) f = popped kind f >>= λ x. Ok (Some x.0)
popped_result None f = Ok None

-- ---- the descriptor of a method that runs

abbrev pub desc_of : Parts → Option Member → Option (List ℕ)
desc_of file (Some m) = text file.pool m.desc
desc_of file None = None

-- the descriptor of the method of a place of a class
abbrev pub desc_at : ℕ → Lineage → Option (List ℕ)
desc_at place class = desc_of class.file (slice_get class.file.methods place)

-- the frame runs a method of this descriptor
pub record IsRunWith (desc : List ℕ) (runs : Runs) : Type 0 where
  pub class : List ℕ
  pub name : List ℕ
  pub is : runs ≡ method class name desc

-- ---- the frame that is returned to

-- a value of a kind fits on the operands of the nearest of these frames
abbrev pub may_return_to : Option Kind → List Frame → Result (Unit {0}) Stop
may_return_to k [] = Ok tt
may_return_to (Some k) (f ∷ fs) = may_push k f
may_return_to None (f ∷ fs) = Ok tt

abbrev pub code_for : Look → Runs → Result Code Stop
code_for look runs = method_for look runs >>= λ m. or_verify m.code

-- the place behind the instruction at a pc of what a frame runs
abbrev pub next_at : Look → Runs → ℕ → Result ℕ Stop
next_at look runs pc = code_for look runs >>= λ code. behind (insn code.bytes pc)

abbrev pub next_for : Look → Runs → Frame → Result (Option ℕ) Stop
next_for look (method class name desc) f = next_of look f >>= λ next. Ok (Some next)
next_for look _ f = Ok None

-- a method that waits goes on behind its call, an initialisation with its stage
abbrev pub next_below : Look → List Frame → Result (Option ℕ) Stop
next_below look [] = Ok None
next_below look (f ∷ fs) = next_for look f.runs f

abbrev pub with_result : Option Word → Frame → Result Frame Stop
with_result (Some word) f = pushed word f
with_result None f = Ok f

abbrev pub moved_on : Option ℕ → Frame → Frame
moved_on (Some next) f = at_place next f
moved_on None f = f

unfoldable pub returned_to : Option Word → Option ℕ → List Frame → Result (List Frame) Stop
returned_to value next [] = Ok []
returned_to value next (f ∷ fs) = with_result value f >>= λ g. Ok (moved_on next g ∷ fs)

-- ---- the return

-- The place where the caller goes on. First comes what is no value of the method's result, does not fit on the operands of the caller, or has no
-- place behind the caller's call.
unfoldable pub return_place : Look → Option Kind → Frame → List Frame → Result (Option ℕ) Stop
return_place look kind f fs =
    kind_of_result f.runs >>= must_be_result kind >>= λ is.
    may_return_to kind fs >>= λ fits. next_below look fs

-- The value is popped, and then comes a monitor that the thread does not own. So the frame is left, and the value put, without failing.
unfoldable pub returned_from : Context → Option Kind → Option ℕ → Point → Result Went Stop
returned_from c kind next p =
    popped_result kind p.frame >>= λ value.
    unlocked c.thread p.frame.lock p.isolate >>= λ s.
    returned_to value next p.callers >>= λ fs. Ok (record { isolate = s; frames = fs; object = c.object; after = does ready })

unfoldable pub return_value : Context → Option Kind → Point → Result Went Stop
return_value c kind p = return_place c.look kind p.frame p.callers >>= λ next. returned_from c kind next p
