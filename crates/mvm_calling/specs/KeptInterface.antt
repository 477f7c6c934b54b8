-- What is kept of a call of a method of an interface: as of a virtual call.
use Rattle.std.specs.Prelude.{◌≡◌, ◌≢◌, ℕ, ◌-◌, List, All, true, false, slice_get, Some, None, Ok}
use Rattle.mvm_base.specs.declared.descriptor.MethodShape.{MethodShape}
use Rattle.mvm_base.specs.declared.value.Kind.{Kind}
use Rattle.mvm_frame.specs.declared.slot.Slot.{Slot}
use Rattle.mvm_frame.specs.declared.slot.Slot.TheVariants as slot
use Rattle.mvm_member.specs.Members.{MemberName}
use Rattle.mvm_set.specs.declared.found.MethodAt.{MethodAt}
use Rattle.mvm_isolate.specs.Instances.{is_instance}
use Rattle.mvm_isolate.specs.Isolate.{Isolate, type_at}
use Rattle.mvm_isolate.specs.Numbered.{Numbered, look_of, name_at, named, IsClass}
use Rattle.mvm_isolate.specs.Types.{of_class}
use Rattle.mvm_current.specs.Arguments.{kinds_of, shape_of, widths}
use Rattle.mvm_current.specs.Frames.{method, Frame}
use Rattle.mvm_current.specs.Keys.{runs_of, IsKey}
use Rattle.mvm_current.specs.declared.key.TheConstants.{NO_METHOD}
use Rattle.mvm_invoke.specs.Calls.{call_target, interface_selected, not_private}
use Rattle.mvm_calling.specs.KeptCalls.{HasSize}
use Rattle.mvm_calling.specs.KeptVirtual.{AreReceiverKinds}
use Rattle.mvm_calling.specs.declared.virtual_call.VirtualCall.{VirtualCall}

-- In each frame of a method of the class of this number, this index names the resolved method; for a receiver of the class of another number the
-- method is selected.
pub record InterfaceSelects (n : Numbered) (home index receiver : ℕ) (resolved m : MemberName) : Type 0 where
  pub place : MethodAt
  pub is_target : (name desc : List ℕ) (f : Frame) → f.runs ≡ method (name_at n home) name desc → call_target (look_of n) false index f ≡ Ok (place, resolved)
  pub is_public : not_private (place, resolved) ≡ Ok (place, resolved)
  pub is_one : (s : Isolate) (o : ℕ) → type_at s o ≡ Some (of_class (name_at n receiver)) → is_instance (look_of n) (of_class resolved.class) s o ≡ true
  pub is_selected : (s : Isolate) (o : ℕ) → type_at s o ≡ Some (of_class (name_at n receiver)) → interface_selected (look_of n) place o s ≡ Ok m

pub record IsInterfaceCall (n : Numbered) (k : VirtualCall) : Type 0 where
  pub resolved : MemberName
  pub member : MemberName
  pub there : IsClass n k.call.home
  pub of_receiver : IsClass n k.receiver
  pub selects : InterfaceSelects n k.call.home k.call.index k.receiver resolved member
  pub is_key : IsKey n k.call.key
  pub runs_method : k.call.key.method ≢ NO_METHOD
  pub unlocked : k.call.key.lock ≡ None
  pub runs : runs_of n k.call.key 0 ≡ method member.class member.name member.desc
  pub has_size : HasSize n member k.call.size
  pub has_kinds : AreReceiverKinds resolved.desc k.call.kinds
  pub are_slots : widths k.call.kinds ≡ k.call.slots

abbrev pub AreInterfaceCalls : Numbered → List VirtualCall → Type 0
AreInterfaceCalls n calls = All (IsInterfaceCall n) calls
