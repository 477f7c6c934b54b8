-- Resolution of methods over a class's lists (JVM Specification 5.4.3.3, 5.4.3.4), for methods of one name and descriptor: `flags` says of
-- each class the access flags of its method, where it has one. The answer is the file that declares the method.
use Rattle.std.specs.Prelude.{List, Bool, ◌&&◌, ◌||◌, if◌then◌else◌, Option, Some, None, Result, Ok, Err}
use Rattle.std.specs.List.{find}
use Rattle.mvm_layout.specs.declared.parts.Parts.{Parts}
use Rattle.mvm_set.specs.Names.{is_interface}
use Rattle.mvm_set.specs.declared.own.OwnWalk.{OwnWalk}
use Rattle.mvm_set.specs.declared.class.Lineage.{Lineage}
use Rattle.mvm_set.specs.declared.fault.LinkFault.{LinkFault}
use Rattle.mvm_set.specs.declared.fault.LinkFault.TheVariants.{Change, NoMethod}
use Rattle.mvm_select.specs.Methods.{Methods, is_there, is_public, is_instance}
use Rattle.mvm_select.specs.MostSpecific.{declares, supers, ruled}

abbrev pub or_no_method : Option OwnWalk → Result Parts LinkFault
or_no_method (Some own) = Ok own.file
or_no_method None = Err NoMethod

-- what the rule of one takes, else the first in walk order that declares the method
abbrev pub or_first_declared : Methods → List OwnWalk → Result Parts LinkFault → Result Parts LinkFault
or_first_declared flags supers (Ok file) = Ok file
or_first_declared flags supers (Err fault) = or_no_method (find (λ own. declares flags own.file) supers)

unfoldable pub of_superinterfaces : Methods → List OwnWalk → Result Parts LinkFault
of_superinterfaces flags walk = or_first_declared flags (supers walk) (ruled flags walk)

-- what was found in the class and its superclasses, else what the superinterfaces have
abbrev pub or_of_superinterfaces : Methods → List OwnWalk → Option OwnWalk → Result Parts LinkFault
or_of_superinterfaces flags walk (Some own) = Ok own.file
or_of_superinterfaces flags walk None = of_superinterfaces flags walk

-- method resolution (5.4.3.3): of a class alone; the class and its superclasses, nearest first; then the superinterfaces
unfoldable pub resolved : Methods → Lineage → Result Parts LinkFault
resolved flags class =
    if is_interface class.file then Err Change else
    or_of_superinterfaces flags class.walk (find (λ own. is_there (flags own.file)) class.line)

-- the interface's own method, or a public instance method of Object, which alone stands above it in its line
abbrev pub is_of_interface : Methods → OwnWalk → Bool
is_of_interface flags own = is_there (flags own.file) && (is_interface own.file || (is_public (flags own.file) && is_instance (flags own.file)))

-- interface method resolution (5.4.3.4): of an interface alone; the interface; the public instance methods of Object; then the
-- superinterfaces
unfoldable pub interface_resolved : Methods → Lineage → Result Parts LinkFault
interface_resolved flags class =
    if is_interface class.file then or_of_superinterfaces flags class.walk (find (is_of_interface flags) class.line) else Err Change
