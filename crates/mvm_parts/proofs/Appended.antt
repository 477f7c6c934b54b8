-- A builder that a char was appended to is a builder again.
use Rattle.std.proofs.Common.{◌≡◌, ◌<◌, ◌≤◌, ◌^◌, ℕ, List, [], ◌∷◌, length, Option, Some, refl, sym, ap, ◌∙◌, arith}
use Rattle.mvm_base.specs.declared.value.Word.{Word}
use Rattle.mvm_builtin.specs.declared.natives.Native.{Native}
use Rattle.mvm_builtin.specs.declared.natives.Native.TheVariants as native
use Rattle.mvm_builtin.specs.Natives.{native_at}
use Rattle.mvm_heap.specs.Objects.{Object}
use Rattle.mvm_heap.specs.Heap.{words}
use Rattle.mvm_heap.proofs.Blocks.{two_at_least}
use Rattle.mvm_native.specs.Arguments.{ref_arg}
use Rattle.mvm_native.specs.Builders.{append, IsBuilder}
use Rattle.mvm_native.specs.Calls.{called, called_in, text_arg}
use Rattle.mvm_native.specs.Machine.{Machine}
use Rattle.mvm_native.specs.declared.out.Out.{Out}
use Rattle.mvm_native.specs.declared.out.Out.TheVariants.{Value}
use Rattle.mvm_native.specs.declared.texts.ValueKind.TheVariants as kind
use Rattle.mvm_native.proofs.Appended.{appended_holds}

-- there are fewer objects than words
pub few : (os : List Object) → length os ≤ words os
unfolding words
few [] = omega arith
few (o ∷ os) = omega (arith, two_at_least o.sort (length o.contents), few os)

append_called : (args : List Word) (m : Machine) → called native.AppendChar args m ≡ append (ref_arg args 0) (text_arg args kind.Char 1 m) m
unfolding called
append_called args m = refl

pub still_builder : (number : ℕ) (args : List Word) (m new : Machine) (out : Out) → native_at number ≡ Some native.AppendChar → IsBuilder m.heap.objects (ref_arg args 0)
    → words m.heap.objects < 2 ^ 32 → called_in (native_at number) args m ≡ (out, new) → (value : Option Word) × (out ≡ Value value) → IsBuilder new.heap.objects (ref_arg args 0)
still_builder number args m new out is builder short done (value, returned) =
    (appended_holds (ref_arg args 0) (text_arg args kind.Char 1 m) m new value builder (omega (arith, few m.heap.objects, short))
    (sym (append_called args m) ∙ sym (ap (λ (o : Option Native). called_in o args m) is) ∙ done ∙ ap (λ (o : Out). (o, new)) returned)).builder
