-- Numbers are held by every array that the instruction serves.
use Rattle.std.proofs.Common.{◌≡◌, ℕ, refl}
use Rattle.std.specs.Prelude.{◌≢◌, Ok}
use Rattle.mvm_base.specs.declared.value.Word.{Word}
use Rattle.mvm_heap.specs.declared.kind.ItemKind.{ItemKind}
use Rattle.mvm_heap.specs.declared.kind.ItemKind.TheVariants as item
use Rattle.mvm_isolate.specs.Isolate.{Isolate}
use Rattle.mvm_isolate.specs.Look.{Look}
use Rattle.mvm_object.specs.Arrays.{may_hold}

pub number_held : (look : Look) (s : Isolate) (wanted : ItemKind) (array : ℕ) (value : Word) → wanted ≢ item.Ref → may_hold look s wanted array value ≡ Ok tt
unfolding may_hold
number_held look s item.Boolean array value not_ref = refl
number_held look s item.Byte array value not_ref = refl
number_held look s item.Char array value not_ref = refl
number_held look s item.Short array value not_ref = refl
number_held look s item.Int array value not_ref = refl
number_held look s item.Long array value not_ref = refl
number_held look s item.Ref array value not_ref = absurd (not_ref refl)
