-- The maximally specific superinterface methods (JVM Specification 5.4.3.3), for methods of one name and descriptor: `flags` says of each
-- class the access flags of its method, where it has one.
use Rattle.std.specs.Prelude.{◌≡◌, ◌≢◌, List, [], ◌∷◌, Bool, true, false, not, ◌&&◌, if◌then◌else◌, Option, Some, None, Result, Ok, Err}
use Rattle.std.specs.List.{list_any, find}
use Rattle.mvm_layout.specs.declared.parts.Parts.{Parts}
use Rattle.mvm_set.specs.Names.{is_interface, is_same}
use Rattle.mvm_set.specs.Family.{Family, file, Inherits}
use Rattle.mvm_set.specs.declared.own.OwnWalk.{OwnWalk}
use Rattle.mvm_set.specs.declared.fault.LinkFault.{LinkFault}
use Rattle.mvm_set.specs.declared.fault.LinkFault.TheVariants.{Abstract, Change}
use Rattle.mvm_select.specs.Methods.{Methods, is_instance, is_not_private, is_abstract}
use Rattle.mvm_select.specs.Names.{has_class}

-- an interface with such a method, neither private nor static
unfoldable pub declares : Methods → Parts → Bool
declares flags file = is_interface file && is_not_private (flags file) && is_instance (flags file)

-- ---- by what a class inherits from

-- The method of one from which the class inherits is one of the class's most specific: it is declared in an interface, neither private
-- nor static, and no other from which the class inherits, and which extends it, declares such a method.
pub record IsMostSpecific (flags : Methods) (class one : Family) : Type 0 where
  pub is_super : Inherits class one
  pub is_declared : declares flags (file one) ≡ true
  pub alone : (other : Family) → Inherits class other → Inherits other one → declares flags (file other) ≡ false

-- one of the most specific, and not abstract
pub record IsConcrete (flags : Methods) (class one : Family) : Type 0 where
  pub is_most_specific : IsMostSpecific flags class one
  pub is_not_abstract : is_abstract (flags (file one)) ≡ false

-- The rule of one: exactly one of the most specific methods is not abstract, and it is taken.
pub data IsRuled (flags : Methods) (class : Family) (answer : Result Parts LinkFault) : Type 0 where
  one : (only : Family) → IsConcrete flags class only → ((other : Family) → IsConcrete flags class other → other ≡ only) → answer ≡ Ok (file only) → IsRuled flags class answer
  many : (some other : Family) → IsConcrete flags class some → IsConcrete flags class other → some ≢ other → answer ≡ Err Change → IsRuled flags class answer
  nothing : ((some : Family) → IsConcrete flags class some → ⊥) → answer ≡ Err Abstract → IsRuled flags class answer

-- ---- the same over a list of those from which a class inherits, each with its own walk

-- another of them, which extends this one, declares such a method
unfoldable pub is_hidden : Methods → List OwnWalk → Parts → Bool
is_hidden flags supers file = list_any (λ other. declares flags other.file && not (is_same other.file file) && has_class other.walk file) supers

-- the method is one of the most specific, and not abstract
abbrev pub is_concrete : Methods → List OwnWalk → Parts → Bool
is_concrete flags supers file = declares flags file && not (is_abstract (flags file)) && not (is_hidden flags supers file)

-- all but the first, which is the class itself
abbrev pub supers : {A : Type 0} → List A → List A
supers [] = []
supers (class ∷ others) = others

-- the first of them whose method is one of the most specific, and not abstract
unfoldable pub first_concrete : Methods → List OwnWalk → Option OwnWalk
first_concrete flags supers = find (λ own. is_concrete flags supers own.file) supers

-- that of another of them than this one is, too
unfoldable pub has_another : Methods → List OwnWalk → Parts → Bool
has_another flags supers file = list_any (λ other. not (is_same other.file file) && is_concrete flags supers other.file) supers

abbrev pub if_only : Methods → List OwnWalk → Option OwnWalk → Result Parts LinkFault
if_only flags supers (Some own) = if has_another flags supers own.file then Err Change else Ok own.file
if_only flags supers None = Err Abstract

-- the rule of one
unfoldable pub ruled : Methods → List OwnWalk → Result Parts LinkFault
ruled flags walk = if_only flags (supers walk) (first_concrete flags (supers walk))
