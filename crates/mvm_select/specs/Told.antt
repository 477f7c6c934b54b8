-- How a method is told: by the place of its class in a walk, and by its place among the class's methods; and what a resolved method names.
use Rattle.std.specs.Prelude.{◌≡◌, ◌<◌, ℕ, ◌+◌, List, [], ◌∷◌, if◌then◌else◌, Option, Some, None, Result, Ok, Err, length, slice_get}
use Rattle.mvm_layout.specs.Pool.{text}
use Rattle.mvm_layout.specs.declared.parts.Member.{Member}
use Rattle.mvm_layout.specs.declared.parts.Parts.{Parts}
use Rattle.mvm_set.specs.Members.{method_at, flags_at}
use Rattle.mvm_set.specs.declared.class.Lineage.{Lineage}
use Rattle.mvm_set.specs.declared.fault.LinkFault.{LinkFault}
use Rattle.mvm_set.specs.declared.fault.LinkFault.TheVariants.{Abstract, NoMethod}
use Rattle.mvm_set.specs.declared.found.Found.{Found}
use Rattle.mvm_set.specs.declared.found.MethodAt.{MethodAt}
use Rattle.mvm_set.specs.declared.own.OwnWalk.{OwnWalk}
use Rattle.mvm_select.specs.Methods.{Methods}
use Rattle.mvm_set.specs.Names.{is_same}
use Rattle.mvm_select.specs.Resolution.{resolved, interface_resolved}
use Rattle.mvm_select.specs.Selection.{selected, interface_selected, selected_from}

-- ---- places

-- a method stands there
pub record IsPlace (walk : List OwnWalk) (found : Found) : Type 0 where
  pub own : OwnWalk
  pub is_holder : slice_get walk found.holder ≡ Some own
  pub is_within : found.index < length own.file.methods

abbrev pub found_at : ℕ → Option ℕ → Option Found
found_at holder (Some index) = Some (record { holder = holder; index = index })
found_at holder None = None

-- the method of this name and descriptor of the class of this file, counted on from a place
abbrev pub place_from : ℕ → List ℕ → List ℕ → List OwnWalk → Parts → Option Found
place_from at name desc [] file = None
place_from at name desc (own ∷ owns) file = if is_same own.file file then found_at at (method_at name desc own.file) else place_from (at + 1) name desc owns file

-- where it is found in a walk
unfoldable pub place_of : List ℕ → List ℕ → List OwnWalk → Parts → Option Found
place_of name desc walk file = place_from 0 name desc walk file

abbrev pub or_fault : LinkFault → Option Found → Result Found LinkFault
or_fault fault (Some found) = Ok found
or_fault fault None = Err fault

-- the method of this class is told by its places; in a walk without the class it is not there
abbrev pub told : LinkFault → List ℕ → List ℕ → List OwnWalk → Result Parts LinkFault → Result Found LinkFault
told missing name desc walk (Ok file) = or_fault missing (place_of name desc walk file)
told missing name desc walk (Err fault) = Err fault

-- ---- resolution

unfoldable pub method_found : List ℕ → List ℕ → Lineage → Result Found LinkFault
method_found name desc class = told NoMethod name desc class.walk (resolved (flags_at name desc) class)

unfoldable pub interface_method_found : List ℕ → List ℕ → Lineage → Result Found LinkFault
interface_method_found name desc class = told NoMethod name desc class.walk (interface_resolved (flags_at name desc) class)

-- ---- a resolved method

-- the file that declares a resolved method, and the method's name and descriptor
pub record Named : Type 0 where
  pub holder : Parts
  pub name : List ℕ
  pub desc : List ℕ

abbrev pub named_by : Parts → Option (List ℕ) → Option (List ℕ) → Option Named
named_by file (Some name) (Some desc) = Some (record { holder = file; name = name; desc = desc })
named_by file _ _ = None

abbrev pub named_in : Parts → Option Member → Option Named
named_in file (Some method) = named_by file (text file.pool method.name) (text file.pool method.desc)
named_in file None = None

abbrev pub named_at : ℕ → Option OwnWalk → Option Named
named_at index (Some own) = named_in own.file (slice_get own.file.methods index)
named_at index None = None

unfoldable pub named : MethodAt → Option Named
named method = named_at method.found.index (slice_get method.class.walk method.found.holder)

-- ---- selection

abbrev pub told_selected : Lineage → (Methods → Result Parts LinkFault) → Named → Result Found LinkFault
told_selected class rule method = told Abstract method.name method.desc class.walk (rule (flags_at method.name method.desc))

-- what a rule selects in a class for a resolved method; for places at which no method stands, none
abbrev pub selection : Lineage → (Parts → Methods → Result Parts LinkFault) → Option Named → Result Found LinkFault
selection class rule (Some method) = told_selected class (rule method.holder) method
selection class rule None = Err Abstract

unfoldable pub virtual_selection : Lineage → MethodAt → Result Found LinkFault
virtual_selection class method = selection class (λ holder flags. selected flags holder class) (named method)

unfoldable pub interface_selection : Lineage → MethodAt → Result Found LinkFault
interface_selection class method = selection class (λ holder flags. interface_selected flags class) (named method)

unfoldable pub special_selection : Lineage → MethodAt → Result Found LinkFault
special_selection start method = selection start (λ holder flags. selected_from flags start) (named method)
