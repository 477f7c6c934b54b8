-- What stands in a class file, as contracts see it.
use Rattle.std.specs.Prelude.{ℕ, List}

-- an attribute: where it begins, the index of its name, and its content (JVM Specification 4.7)
pub record AttributeParts : Type 0 where
  pub at : ℕ
  pub name : ℕ
  pub content : List ℕ
