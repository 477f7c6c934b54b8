-- What the finds and the selections mean for a class with all from which it inherits (JVM Specification 5.4.3.3, 5.4.3.4, 6.5), for methods
-- of one name and descriptor: `flags` says of each class the access flags of its method, where it has one.
use Rattle.std.specs.Prelude.{◌≡◌, ℕ, List, true, not, ◌&&◌, ◌||◌, if◌then◌else◌, Some, Result, Ok, Err, slice_get}
use Rattle.mvm_layout.specs.declared.parts.Parts.{Parts}
use Rattle.mvm_set.specs.Family.{Family, file, line, walk}
use Rattle.mvm_set.specs.Members.{method_at}
use Rattle.mvm_set.specs.Names.{is_interface}
use Rattle.mvm_set.specs.declared.class.Lineage.{Lineage}
use Rattle.mvm_set.specs.declared.fault.LinkFault.{LinkFault}
use Rattle.mvm_set.specs.declared.fault.LinkFault.TheVariants.{Abstract, Access, NoMethod}
use Rattle.mvm_set.specs.declared.found.Found.{Found}
use Rattle.mvm_set.specs.declared.own.OwnWalk.{OwnWalk}
use Rattle.mvm_select.specs.Families.{IsFirst, IsNone}
use Rattle.mvm_select.specs.Methods.{Methods, is_there, is_public, is_instance, is_abstract}
use Rattle.mvm_select.specs.MostSpecific.{declares, supers, IsRuled}
use Rattle.mvm_select.specs.Overriding.{OverridesThat}

-- ---- what is looked for in the class and its superclasses, nearest first

-- any method
abbrev pub IsThere : Methods → Family → Type 0
IsThere flags one = is_there (flags (file one)) ≡ true

-- an interface's own method, or a public instance method of Object, which alone stands above it
abbrev pub IsOfInterface : Methods → Family → Type 0
IsOfInterface flags one = (is_there (flags (file one)) && (is_interface (file one) || (is_public (flags (file one)) && is_instance (flags (file one))))) ≡ true

-- an instance method
abbrev pub IsInstance : Methods → Family → Type 0
IsInstance flags one = is_instance (flags (file one)) ≡ true

-- an instance method that overrides that of the base
pub record IsOverriding (flags : Methods) (base : Parts) (one : Family) : Type 0 where
  pub is_instance : IsInstance flags one
  pub overrides : OverridesThat flags base one

-- an instance method; from an interface on, of Object, which alone stands above it, a public one
abbrev pub IsOfStart : Methods → Family → Family → Type 0
IsOfStart flags start one = (is_instance (flags (file one)) && (not (is_interface (file start)) || is_interface (file one) || is_public (flags (file one)))) ≡ true

-- ---- resolution

-- The nearest that is wanted; else what the rule of one takes; else the first that a superinterface declares, in walk order.
pub data Resolves (flags : Methods) (Wanted : Family → Type 0) (class : Family) (answer : Result Parts LinkFault) : Type 0 where
  in_line : (one : Family) → IsFirst Wanted (line class) one → answer ≡ Ok (file one) → Resolves flags Wanted class answer
  by_rule : (taken : Parts) → IsNone Wanted (line class) → IsRuled flags class (Ok taken) → answer ≡ Ok taken → Resolves flags Wanted class answer
  declared_first : (fault : LinkFault) (one : Family) → IsNone Wanted (line class) → IsRuled flags class (Err fault)
      → IsFirst (λ other. declares flags (file other) ≡ true) (supers (walk class)) one → answer ≡ Ok (file one) → Resolves flags Wanted class answer
  nowhere : (fault : LinkFault) → IsNone Wanted (line class) → IsRuled flags class (Err fault)
      → IsNone (λ other. declares flags (file other) ≡ true) (supers (walk class)) → answer ≡ Err NoMethod → Resolves flags Wanted class answer

-- ---- selection

-- an abstract method is not selected
abbrev pub not_abstract : Methods → Parts → Result Parts LinkFault
not_abstract flags file = if is_abstract (flags file) then Err Abstract else Ok file

-- nor one that is not public
abbrev pub public_not_abstract : Methods → Parts → Result Parts LinkFault
public_not_abstract flags file = if is_public (flags file) then not_abstract flags file else Err Access

-- The nearest that is wanted, if it may be taken; else by the rule of one.
pub data Selects (flags : Methods) (Wanted : Family → Type 0) (taken : Parts → Result Parts LinkFault) (class : Family) (answer : Result Parts LinkFault) : Type 0 where
  from_line : (one : Family) → IsFirst Wanted (line class) one → answer ≡ taken (file one) → Selects flags Wanted taken class answer
  from_interfaces : IsNone Wanted (line class) → IsRuled flags class answer → Selects flags Wanted taken class answer

-- ---- places

-- the method of this name and descriptor of the class of this file stands at these places
pub record IsAt (name desc : List ℕ) (class : Lineage) (file : Parts) (found : Found) : Type 0 where
  pub own : OwnWalk
  pub is_holder : slice_get class.walk found.holder ≡ Some own
  pub is_file : own.file ≡ file
  pub is_index : method_at name desc file ≡ Some found.index

-- an answer by its file is told by its places
abbrev pub Tells : List ℕ → List ℕ → Lineage → Result Parts LinkFault → Result Found LinkFault → Type 0
Tells name desc class (Ok file) result = (found : Found) × (result ≡ Ok found) × IsAt name desc class file found
Tells name desc class (Err fault) result = result ≡ Err fault

-- the answer of a call means this of the class that declares the method
pub record Answered (name desc : List ℕ) (class : Lineage) (Means : Result Parts LinkFault → Type 0) (result : Result Found LinkFault) : Type 0 where
  pub answer : Result Parts LinkFault
  pub means : Means answer
  pub tells : Tells name desc class answer result
