-- Selection of methods over a class's lists (JVM Specification 6.5, under invokevirtual, invokeinterface and invokespecial), for methods
-- of one name and descriptor: `flags` says of each class the access flags of its method, where it has one. The answer is the file that
-- declares the method.
use Rattle.std.specs.Prelude.{List, Bool, not, ◌&&◌, ◌||◌, if◌then◌else◌, Option, Some, None, Result, Ok, Err}
use Rattle.std.specs.List.{find}
use Rattle.mvm_layout.specs.declared.parts.Parts.{Parts}
use Rattle.mvm_set.specs.Names.{is_interface, is_same}
use Rattle.mvm_set.specs.declared.own.OwnWalk.{OwnWalk}
use Rattle.mvm_set.specs.declared.class.Lineage.{Lineage}
use Rattle.mvm_set.specs.declared.fault.LinkFault.{LinkFault}
use Rattle.mvm_set.specs.declared.fault.LinkFault.TheVariants.{Abstract, Access}
use Rattle.mvm_select.specs.Methods.{Methods, is_public, is_public_or_protected, is_not_private, is_instance, is_abstract}
use Rattle.mvm_select.specs.MostSpecific.{ruled}
use Rattle.mvm_select.specs.Names.{has_class}
use Rattle.mvm_select.specs.Overriding.{may_override, overrides_through}

-- what was found in the class and its superclasses, of which an abstract method is not selected; else by the rule of one
abbrev pub or_ruled : Methods → List OwnWalk → Option OwnWalk → Result Parts LinkFault
or_ruled flags walk (Some own) = if is_abstract (flags own.file) then Err Abstract else Ok own.file
or_ruled flags walk None = ruled flags walk

-- ---- invokevirtual

-- where it overrides that of the base through a third
abbrev pub if_through : Methods → List OwnWalk → Parts → Option OwnWalk → Option OwnWalk
if_through flags owns base (Some own) = if overrides_through flags owns own base then Some own else None
if_through flags owns base None = None

-- the nearest instance method that is not private
abbrev pub nearest_not_private : Methods → List OwnWalk → Option OwnWalk
nearest_not_private flags line = find (λ own. is_instance (flags own.file) && is_not_private (flags own.file)) line

-- it, where it overrides through a third; no third is needed where the base's method is public or protected
unfoldable pub nearest_through : Methods → Parts → Lineage → Option OwnWalk
nearest_through flags base class = if is_public_or_protected (flags base) then None else if_through flags class.walk base (nearest_not_private flags class.line)

-- where the class is the base, or inherits from it
abbrev pub if_below : Parts → Option OwnWalk → Option OwnWalk
if_below base (Some own) = if has_class own.walk base then Some own else None
if_below base None = None

-- the nearest instance method that is the base's or may override it
abbrev pub nearest_that_may : Methods → Parts → List OwnWalk → Option OwnWalk
nearest_that_may flags base line = find (λ own. is_instance (flags own.file) && (is_same own.file base || may_override flags own.file base)) line

unfoldable pub nearest_direct : Methods → Parts → Lineage → Option OwnWalk
nearest_direct flags base class = if_below base (nearest_that_may flags base class.line)

abbrev pub or_direct : Option OwnWalk → Option OwnWalk → Option OwnWalk
or_direct (Some own) direct = Some own
or_direct None direct = direct

-- The nearest instance method of the class and its superclasses that overrides that of the base, without a test of each: what a class
-- inherits from, a nearer one inherits from, too. So a third method that serves any class serves the nearest whose method is not private;
-- and where the nearest whose method may override does not inherit from the base, none behind it does. `select_law` says that it is the
-- nearest that overrides.
unfoldable pub nearest_overriding : Methods → Parts → Lineage → Option OwnWalk
nearest_overriding flags base class = or_direct (nearest_through flags base class) (nearest_direct flags base class)

unfoldable pub selected : Methods → Parts → Lineage → Result Parts LinkFault
selected flags base class = or_ruled flags class.walk (nearest_overriding flags base class)

-- ---- invokeinterface

-- what was found in the class and its superclasses is accessible where it is public
abbrev pub or_ruled_if_public : Methods → List OwnWalk → Option OwnWalk → Result Parts LinkFault
or_ruled_if_public flags walk (Some own) = if is_public (flags own.file) then or_ruled flags walk (Some own) else Err Access
or_ruled_if_public flags walk None = ruled flags walk

-- the nearest instance method
unfoldable pub interface_selected : Methods → Lineage → Result Parts LinkFault
interface_selected flags class = or_ruled_if_public flags class.walk (find (λ own. is_instance (flags own.file)) class.line)

-- ---- invokespecial

-- an instance method; from an interface on, of Object, which alone stands above it in its line, a public one
abbrev pub is_of_start : Methods → Bool → OwnWalk → Bool
is_of_start flags from_interface own = is_instance (flags own.file) && (not from_interface || is_interface own.file || is_public (flags own.file))

unfoldable pub selected_from : Methods → Lineage → Result Parts LinkFault
selected_from flags start = or_ruled flags start.walk (find (is_of_start flags (is_interface start.file)) start.line)
