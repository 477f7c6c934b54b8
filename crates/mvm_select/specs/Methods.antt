-- Methods by name and descriptor (JVM Specification 4.6). A class has at most one method of a name and descriptor, so each rule here
-- tells a method by its class: `Methods` says of a class the access flags of its method of one name and descriptor, where it has one.
use Rattle.std.specs.Prelude.{ℕ, Bool, true, false, not, ◌||◌, Option, Some, None}
use Rattle.mvm_layout.specs.Flags.{has_flag}
use Rattle.mvm_layout.specs.declared.flags.TheConstants as flag
use Rattle.mvm_layout.specs.declared.parts.Parts.{Parts}

abbrev pub Methods : Type 0
Methods = Parts → Option ℕ

-- there is a method
abbrev pub is_there : Option ℕ → Bool
is_there (Some flags) = true
is_there None = false

-- there is a method, with this flag
abbrev pub with_flag : ℕ → Option ℕ → Bool
with_flag one (Some flags) = has_flag one flags
with_flag one None = false

-- there is a method, without this flag
abbrev pub without_flag : ℕ → Option ℕ → Bool
without_flag one (Some flags) = not (has_flag one flags)
without_flag one None = false

abbrev pub is_public : Option ℕ → Bool
is_public method = with_flag flag.PUBLIC method

abbrev pub is_public_or_protected : Option ℕ → Bool
is_public_or_protected method = with_flag flag.PUBLIC method || with_flag flag.PROTECTED method

abbrev pub is_not_private : Option ℕ → Bool
is_not_private method = without_flag flag.PRIVATE method

-- an object's, and not the class's
abbrev pub is_instance : Option ℕ → Bool
is_instance method = without_flag flag.STATIC method

abbrev pub is_abstract : Option ℕ → Bool
is_abstract method = with_flag flag.ABSTRACT method
