-- Classes of one name, and of one package (JVM Specification 5.3); and a word on answers.
use Rattle.std.specs.Prelude.{ℕ, List, Bool, false, Option, Some, Result, Ok, Err}
use Rattle.mvm_layout.specs.declared.parts.Parts.{Parts}
use Rattle.mvm_set.specs.Names.{own_name, is_same_package}
use Rattle.mvm_set.specs.Once.{has}

-- one of the files defines the class of that name
unfoldable pub has_class : List Parts → Parts → Bool
has_class files file = has own_name files file

abbrev pub of_one_package : Option (List ℕ) → Option (List ℕ) → Bool
of_one_package (Some one) (Some other) = is_same_package one other
of_one_package _ _ = false

-- the classes stand in one package
unfoldable pub share_package : Parts → Parts → Bool
share_package one other = of_one_package (own_name one) (own_name other)

-- what an answer holds
abbrev pub on_ok : {A B E : Type 0} → (A → B) → Result A E → Result B E
on_ok f (Ok value) = Ok (f value)
on_ok f (Err fault) = Err fault
