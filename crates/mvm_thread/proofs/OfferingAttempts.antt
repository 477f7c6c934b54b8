-- An attempt offers a message only where no other thread sends on its link.
use Rattle.std.specs.Prelude.{ℕ, List, [], ◌∷◌, ◌==◌, Option, Some, None, Result, Ok, Err}
use Rattle.mvm_current.specs.Code.{code_of, next_of}
use Rattle.mvm_current.specs.Frames.{Frame, Runs, initialising, method, starting}
use Rattle.mvm_isolate.specs.Isolate.{Isolate}
use Rattle.mvm_isolate.specs.declared.stop.Stop.{Stop}
use Rattle.mvm_local.specs.Attempts.{attempt as attempt_alone}
use Rattle.mvm_local.specs.Body.{Body}
use Rattle.mvm_local.specs.declared.beyond.Beyond.{Beyond}
use Rattle.mvm_local.specs.declared.beyond.Beyond.TheVariants.{Interface, Multi, NewArray, Plain, Pool}
use Rattle.mvm_local.specs.declared.beyond.BeyondAt.{BeyondAt}
use Rattle.mvm_local.specs.declared.fault.Fault.{Fault}
use Rattle.mvm_local.specs.declared.fault.Fault.TheVariants.{Arithmetic, Verify}
use Rattle.mvm_locking.specs.Monitors.{monitor_taken}
use Rattle.mvm_object.specs.Going.{After, Context, Doing, Point, Went, acts, does, ends_uncaught, entering, exits, initing, in_isolate, joining, limited, notifies, ready, starts}
use Rattle.mvm_thread.specs.Attempt.{after_throw, after_unwinding, attempt, attempted, behind_call, ended_or, for_frame, settled, settled_by}
use Rattle.mvm_thread.specs.Instructions.{further, instruction, on_entry, performed, plain}
use Rattle.mvm_thread.specs.Rows.{action_of}
use Rattle.mvm_thread.specs.declared.action.Action.{Action}
use Rattle.mvm_thread.specs.declared.action.Action.TheVariants as action
use Rattle.mvm_throwing.specs.Throwing.{Unwound, throw}
use Rattle.mvm_thread.proofs.OfferingCalls.{invoke_interface_fine, invoke_special_fine, invoke_static_fine, invoke_virtual_fine, monitor_enter_fine, monitor_exit_fine, return_fine}
use Rattle.mvm_thread.proofs.OfferingFree.{Fine, FreeAfter, if_fine, on_fine, then_fine}
use Rattle.mvm_thread.proofs.OfferingObjects.{array_length_fine, check_cast_fine, constant_fine, get_field_fine, get_static_fine, instance_of_fine, load_item_fine, make_arrays_fine, make_numbers_fine, make_object_fine, make_references_fine, put_field_fine, put_static_fine, store_item_fine, throw_fine}
use Rattle.mvm_thread.proofs.OfferingStarts.{initialise_fine, start_fine}

-- ---- one instruction

plain_fine : (c : Context) (row : Action) (next : ℕ) (p : Point) → Fine c (plain c row next p)
unfolding plain
plain_fine c (action.LoadItem items) next p = load_item_fine c items next p
plain_fine c (action.StoreItem items) next p = store_item_fine c items next p
plain_fine c action.ArrayLength next p = array_length_fine c next p
plain_fine c action.Throw next p = throw_fine c p
plain_fine c action.EnterMonitor next p = monitor_enter_fine c next p
plain_fine c action.ExitMonitor next p = monitor_exit_fine c next p
plain_fine c (action.Return kind) next p = return_fine c (Some kind) p
plain_fine c action.ReturnNothing next p = return_fine c None p
plain_fine c _ next p = record { by = tt }

entry_fine : (c : Context) (row : Action) (index next : ℕ) (p : Point) → Fine c (on_entry c row index next p)
unfolding on_entry
entry_fine c action.Constant index next p = constant_fine c index next p
entry_fine c action.GetStatic index next p = get_static_fine c index next p
entry_fine c action.PutStatic index next p = put_static_fine c index next p
entry_fine c action.GetField index next p = get_field_fine c index next p
entry_fine c action.PutField index next p = put_field_fine c index next p
entry_fine c action.InvokeVirtual index next p = invoke_virtual_fine c index next p
entry_fine c action.InvokeSpecial index next p = invoke_special_fine c index next p
entry_fine c action.InvokeStatic index next p = invoke_static_fine c index next p
entry_fine c action.New index next p = make_object_fine c index next p
entry_fine c action.NewReferences index next p = make_references_fine c index next p
entry_fine c action.CheckCast index next p = check_cast_fine c index next p
entry_fine c action.InstanceOf index next p = instance_of_fine c index next p
entry_fine c _ index next p = record { by = tt }

further_fine : (c : Context) (beyond : Beyond) (next : ℕ) (p : Point) → Fine c (further c beyond next p)
unfolding further
further_fine c (Plain op) next p = plain_fine c (action_of op) next p
further_fine c (Pool op index) next p = entry_fine c (action_of op) index next p
further_fine c (Interface index) next p = invoke_interface_fine c index next p
further_fine c (NewArray code) next p = make_numbers_fine c code next p
further_fine c (Multi index dims) next p = make_arrays_fine c index dims next p

performed_fine : (c : Context) (p : Point) (r : Result (Option BeyondAt × Body) Fault) → Fine c (performed c p r)
performed_fine c p (Ok (None, body)) = record { by = tt }
performed_fine c p (Ok (Some at, body)) = further_fine c at.insn at.next p
performed_fine c p (Err Verify) = record { by = tt }
performed_fine c p (Err Arithmetic) = record { by = tt }

instruction_fine : (c : Context) (p : Point) → Fine c (instruction c p)
unfolding instruction
instruction_fine c p = then_fine c (code_of c.look p.frame) _ (λ code. performed_fine c p (attempt_alone code.bytes p.frame.body))

-- ---- one attempt

frame_fine : (c : Context) (runs : Runs) (p : Point) → Fine c (for_frame c runs p)
frame_fine c starting p = start_fine c p
frame_fine c (initialising class) p = initialise_fine c class p
frame_fine c (method class name desc) p = instruction_fine c p

behind_fine : (c : Context) (p : Point) → Fine c (behind_call c p)
behind_fine c p = then_fine c (next_of c.look p.frame) _ (λ next. on_fine c next p.frame p)

attempted_fine : (c : Context) (doing : Doing) (p : Point) → Fine c (attempted c doing p)
unfolding attempted
attempted_fine c ready p = frame_fine c p.frame.runs p
attempted_fine c (entering object count) p =
    let taken = in_isolate (monitor_taken c.thread object count p.isolate) p in
    if_fine c (count == 0) (for_frame c p.frame.runs p) (behind_call c taken) (frame_fine c p.frame.runs p) (behind_fine c taken)
attempted_fine c (initing class) p = frame_fine c p.frame.runs p
attempted_fine c (joining thread) p = behind_fine c p
attempted_fine c _ p = record { by = tt }

-- ---- what it comes to, with what it throws

after_throw_fine : (c : Context) (r : Result Unwound Stop) → Fine c (after_throw c r)
after_throw_fine c (Ok x) = by x.frames where
  by : (fs : List Frame) → Fine c (Ok (record { isolate = x.isolate; frames = fs; object = c.object; after = after_unwinding fs x.object }))
  by [] = record { by = tt }
  by (f ∷ fs) = record { by = tt }
after_throw_fine c (Err missing) = record { by = tt }

ended_free : (c : Context) (doing : Doing) (fs : List Frame) → FreeAfter c (ended_or doing fs)
ended_free c ready [] = tt
ended_free c ready (f ∷ fs) = tt
ended_free c _ fs = tt

settled_free : (c : Context) (w : Went) (after : After) → FreeAfter c w.after → FreeAfter c (settled_by w after).after
settled_free c w (does doing) free = ended_free c doing w.frames
settled_free c w (starts object) free = free
settled_free c w (notifies object all) free = free
settled_free c w (acts act doing) free = free
settled_free c w (ends_uncaught object) free = free
settled_free c w (exits status) free = free
settled_free c w (limited kind) free = free

settled_fine : (c : Context) (s : Isolate) (fs : List Frame) (r : Result Went Stop) → Fine c r → Fine c (settled c s fs r)
settled_fine c s fs (Ok w) fine = record { by = settled_free c w w.after fine.by }
settled_fine c s fs (Err why) fine = after_throw_fine c (throw c.look c.thread why s fs)

pub attempt_fine : (c : Context) (doing : Doing) (s : Isolate) (fs : List Frame) → Fine c (attempt c doing s fs)
unfolding attempt
attempt_fine c doing s [] = record { by = tt }
attempt_fine c doing s (f ∷ fs) =
    let p : Point = record { isolate = s; frame = f; callers = fs } in settled_fine c s (f ∷ fs) (attempted c doing p) (attempted_fine c doing p)
