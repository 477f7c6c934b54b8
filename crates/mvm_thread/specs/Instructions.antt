-- One instruction (JVM Specification 2.11, 6.5).
use Rattle.std.specs.Prelude.{ℕ, List, ◌∷◌, Option, Some, None, Result, Ok, Err}
use Rattle.mvm_base.specs.Answers.{◌>>=◌}
use Rattle.mvm_layout.specs.declared.parts.Code.{Code}
use Rattle.mvm_local.specs.Attempts.{attempt}
use Rattle.mvm_local.specs.Body.{Body}
use Rattle.mvm_local.specs.declared.beyond.Beyond.{Beyond}
use Rattle.mvm_local.specs.declared.beyond.Beyond.TheVariants.{Plain, Pool, Interface, NewArray, Multi}
use Rattle.mvm_local.specs.declared.beyond.BeyondAt.{BeyondAt}
use Rattle.mvm_local.specs.declared.fault.Fault.{Fault}
use Rattle.mvm_local.specs.declared.fault.Fault.TheVariants.{Verify, Arithmetic}
use Rattle.mvm_native.specs.declared.out.Thrown.TheVariants.{VerifyError, ArithmeticException}
use Rattle.mvm_isolate.specs.Isolate.{stopped}
use Rattle.mvm_isolate.specs.declared.stop.Stop.{Stop}
use Rattle.mvm_object.specs.Arrays.{load_item, store_item, array_length, make_numbers, make_references, make_arrays}
use Rattle.mvm_invoke.specs.Calls.{invoke_virtual, invoke_special, invoke_static, invoke_interface}
use Rattle.mvm_object.specs.Fields.{load_constant, get_static, put_static, get_field, put_field}
use Rattle.mvm_object.specs.Going.{Context, Point, Went, does, ready}
use Rattle.mvm_locking.specs.Monitors.{monitor_enter, monitor_exit}
use Rattle.mvm_object.specs.Objects.{make_object, check_cast, instance_of, throw_object}
use Rattle.mvm_locking.specs.Returns.{return_value}
use Rattle.mvm_current.specs.Code.{code_of}
use Rattle.mvm_thread.specs.Rows.{action_of}
use Rattle.mvm_thread.specs.declared.action.Action.{Action}
use Rattle.mvm_thread.specs.declared.action.Action.TheVariants as action

-- an instruction without operands in the code
unfoldable pub plain : Context → Action → ℕ → Point → Result Went Stop
plain c (action.LoadItem items) next p = load_item c items next p
plain c (action.StoreItem items) next p = store_item c items next p
plain c action.ArrayLength next p = array_length c next p
plain c action.Throw next p = throw_object c p
plain c action.EnterMonitor next p = monitor_enter c next p
plain c action.ExitMonitor next p = monitor_exit c next p
plain c (action.Return kind) next p = return_value c (Some kind) p
plain c action.ReturnNothing next p = return_value c None p
plain c _ next p = stopped VerifyError

-- an instruction that names an entry of the constant pool
unfoldable pub on_entry : Context → Action → ℕ → ℕ → Point → Result Went Stop
on_entry c action.Constant index next p = load_constant c index next p
on_entry c action.GetStatic index next p = get_static c index next p
on_entry c action.PutStatic index next p = put_static c index next p
on_entry c action.GetField index next p = get_field c index next p
on_entry c action.PutField index next p = put_field c index next p
on_entry c action.InvokeVirtual index next p = invoke_virtual c index next p
on_entry c action.InvokeSpecial index next p = invoke_special c index next p
on_entry c action.InvokeStatic index next p = invoke_static c index next p
on_entry c action.New index next p = make_object c index next p
on_entry c action.NewReferences index next p = make_references c index next p
on_entry c action.CheckCast index next p = check_cast c index next p
on_entry c action.InstanceOf index next p = instance_of c index next p
on_entry c _ index next p = stopped VerifyError

-- an instruction that reaches beyond its frame
unfoldable pub further : Context → Beyond → ℕ → Point → Result Went Stop
further c (Plain op) next p = plain c (action_of op) next p
further c (Pool op index) next p = on_entry c (action_of op) index next p
further c (Interface index) next p = invoke_interface c index next p
further c (NewArray code) next p = make_numbers c code next p
further c (Multi index dims) next p = make_arrays c index dims next p

abbrev pub performed : Context → Point → Result (Option BeyondAt × Body) Fault → Result Went Stop
performed c p (Ok (None, body)) = Ok (record { isolate = p.isolate; frames = record p.frame { body = body } ∷ p.callers; object = c.object; after = does ready })
performed c p (Ok (Some at, body)) = further c at.insn at.next p
performed c p (Err Verify) = stopped VerifyError
performed c p (Err Arithmetic) = stopped ArithmeticException

-- the instruction at the pc of the top frame
unfoldable pub instruction : Context → Point → Result Went Stop
instruction c p = code_of c.look p.frame >>= λ code. performed c p (attempt code.bytes p.frame.body)
