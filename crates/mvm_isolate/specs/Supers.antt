-- The supers that are initialised before a class (JVM Specification 5.5, step 7).
use Rattle.std.specs.Prelude.{ℕ, List, [], ◌∷◌, ◌++◌, Option, Some, None, if◌then◌else◌}
use Rattle.mvm_set.specs.Names.{own_name, superclass, is_interface, with_name}
use Rattle.mvm_set.specs.Members.{declares_concrete_instance_method}
use Rattle.mvm_set.specs.declared.class.Lineage.{Lineage}
use Rattle.mvm_set.specs.declared.own.OwnWalk.{OwnWalk}

-- the names of those among interfaces that declare a method that is neither abstract nor static
abbrev pub with_code_in : List OwnWalk → List (List ℕ)
with_code_in [] = []
with_code_in (own ∷ owns) = if declares_concrete_instance_method own.file then with_name (own_name own.file) (with_code_in owns) else with_code_in owns

-- of a class its superclass, and then such of its superinterfaces, in the order of initialisation; an interface has none
unfoldable pub supers_of : Lineage → List (List ℕ)
supers_of class = if is_interface class.file then [] else superclass class.file ++ with_code_in class.superinterfaces
