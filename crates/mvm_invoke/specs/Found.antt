-- What a call answers that finds a method, against what the definition gives.
use Rattle.std.specs.Prelude.{◌≡◌, Some, Result, Ok}
use Rattle.mvm_member.specs.Members.{MemberName, method_named}
use Rattle.mvm_set.specs.declared.found.MethodAt.{MethodAt}
use Rattle.mvm_isolate.specs.declared.stop.Stop.{Stop}
use Rattle.mvm_invoke.specs.Calls.{Target}

-- the definition gives the method, by its places and by its names
pub record HasTarget (method : MethodAt) (definition : Result Target Stop) : Type 0 where
  pub member : MemberName
  pub is_member : method_named method ≡ Some member
  pub is_target : definition ≡ Ok (method, member)

-- the definition gives the names of the method
pub record HasMember (method : MethodAt) (definition : Result MemberName Stop) : Type 0 where
  pub member : MemberName
  pub is_member : method_named method ≡ Some member
  pub is_given : definition ≡ Ok member
