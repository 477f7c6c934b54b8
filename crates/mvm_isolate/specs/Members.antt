-- The members of a class that was looked up (JVM Specification 4.5, 4.6, 5.4.3).
use Rattle.std.specs.Prelude.{ℕ, List, Option, Some, None, Result, Ok, Err}
use Rattle.mvm_base.specs.Answers.{◌>>=◌}
use Rattle.mvm_layout.specs.declared.parts.Member.{Member}
use Rattle.mvm_member.specs.Members.{MemberName, method_declared}
use Rattle.mvm_mirror.specs.Statics.{slot_of}
use Rattle.mvm_native.specs.declared.out.Thrown.TheVariants.{VerifyError}
use Rattle.mvm_isolate.specs.declared.stop.Stop.{Stop}
use Rattle.mvm_isolate.specs.Faults.{looked_up}
use Rattle.mvm_isolate.specs.Isolate.{stopped}
use Rattle.mvm_isolate.specs.Look.{Look}

-- what linked code has; the code is wrong where it has none, so that every rule says something
abbrev pub or_verify : {A : Type 0} → Option A → Result A Stop
or_verify (Some value) = Ok value
or_verify None = stopped VerifyError

-- ---- a static field

-- the class of a name declares the static field that a reference means
unfoldable pub is_declared : Look → MemberName → Result (Unit {0}) Stop
is_declared look m = looked_up (look.class m.class) >>= λ class. or_verify (slot_of m.name m.desc class.file) >>= λ slot. Ok tt

-- ---- a method and its code

-- the method of this name and descriptor that the class of a name declares
unfoldable pub method_in : Look → List ℕ → List ℕ → List ℕ → Result Member Stop
method_in look class name desc =
    looked_up (look.class class) >>= λ found. or_verify (method_declared name desc found.file)
