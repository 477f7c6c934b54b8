-- A place that 32 bits do not count is a place of no object.
use Rattle.std.proofs.Common.{◌≡◌, ◌≤◌, ◌^◌, ℕ, List, Option, Some, None, Result, Err, refl, sym}
use Rattle.mvm_base.specs.Answers.{◌>>=◌}
use Rattle.mvm_heap.specs.Objects.{Object}
use Rattle.mvm_native.specs.declared.out.Thrown.TheVariants.{VerifyError}
use Rattle.mvm_isolate.specs.Members.{or_verify}
use Rattle.mvm_isolate.specs.declared.stop.Stop.{Stop}
use Rattle.mvm_isolate.specs.declared.stop.Stop.TheVariants.{Throw}
use Rattle.mvm_object.specs.Fields.{within}

pub no_place : (found : Option ℕ) (os : List Object) (object : ℕ) (stop : Stop) → ((place : ℕ) → found ≡ Some place → 2 ^ 32 ≤ place)
    → ((place : ℕ) → 2 ^ 32 ≤ place → within os object place ≡ Err stop) → stop ≡ Throw VerifyError → Err stop ≡ (or_verify found >>= within os object)
no_place (Some place) os object stop far none is = sym (none place (far place refl))
no_place None os object stop far none is = rw is refl
