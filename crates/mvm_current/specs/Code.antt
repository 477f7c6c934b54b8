-- The method that a frame runs, and its code (JVM Specification 2.6, 4.7.3).
use Rattle.std.specs.Prelude.{ℕ, List, Result, Ok, Err}
use Rattle.mvm_base.specs.Answers.{◌>>=◌}
use Rattle.mvm_insn.specs.Insns.{insn}
use Rattle.mvm_insn.specs.declared.fault.InsnFault.{InsnFault}
use Rattle.mvm_insn.specs.declared.insn.At.{At}
use Rattle.mvm_layout.specs.declared.parts.Code.{Code}
use Rattle.mvm_layout.specs.declared.parts.Member.{Member}
use Rattle.mvm_native.specs.declared.out.Thrown.TheVariants.{VerifyError}
use Rattle.mvm_isolate.specs.Isolate.{stopped}
use Rattle.mvm_isolate.specs.Look.{Look}
use Rattle.mvm_isolate.specs.Members.{or_verify, method_in}
use Rattle.mvm_isolate.specs.declared.stop.Stop.{Stop}
use Rattle.mvm_current.specs.Frames.{Runs, method, Frame}

abbrev pub method_for : Look → Runs → Result Member Stop
method_for look (method class name desc) = method_in look class name desc
method_for look _ = stopped VerifyError

-- the method that a frame runs
unfoldable pub method_of : Look → Frame → Result Member Stop
method_of look f = method_for look f.runs

-- the code that a frame runs
unfoldable pub code_of : Look → Frame → Result Code Stop
code_of look f = method_of look f >>= λ m. or_verify m.code

abbrev pub behind : Result At InsnFault → Result ℕ Stop
behind (Ok at) = Ok at.next
behind (Err fault) = stopped VerifyError

-- the place behind the instruction at the pc of a frame
unfoldable pub next_of : Look → Frame → Result ℕ Stop
next_of look f = code_of look f >>= λ code. behind (insn code.bytes f.body.pc)
