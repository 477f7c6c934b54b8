-- Who may see what (JVM Specification 5.4.4).
use Rattle.std.specs.Prelude.{ℕ, List, Bool, not, ◌&&◌, ◌||◌}
use Rattle.std.specs.List.{list_any}
use Rattle.mvm_layout.specs.Flags.{has_flag}
use Rattle.mvm_layout.specs.declared.flags.TheConstants as flag
use Rattle.mvm_layout.specs.declared.parts.Parts.{Parts}
use Rattle.mvm_set.specs.Names.{own_name, is_called, is_near}
use Rattle.mvm_set.specs.declared.class.Lineage.{Lineage}

-- the class of this name is the class or one that it inherits from
unfoldable pub is_subclass : Lineage → List ℕ → Bool
is_subclass class name = list_any (λ own. is_called name own.file) class.walk

-- a class is accessible from the class of this name: it is public, or stands in the same package
unfoldable pub is_reachable : List ℕ → Parts → Bool
is_reachable from file = has_flag flag.PUBLIC file.flags || is_near from (own_name file)

-- neither public, nor protected, nor private
abbrev pub has_no_access_flag : ℕ → Bool
has_no_access_flag flags = not (has_flag flag.PUBLIC flags || has_flag flag.PROTECTED flags || has_flag flag.PRIVATE flags)

-- A member of these flags that the class of the name holder declares is accessible from a class: it is public; or protected,
-- and the class is the holder, inherits from it or stands in its package; or without access flag, and the class stands in the
-- holder's package; or private, and the class is the holder.
unfoldable pub is_accessible : Lineage → List ℕ → ℕ → Bool
is_accessible from holder flags =
    has_flag flag.PUBLIC flags
    || (has_flag flag.PROTECTED flags && (is_subclass from holder || is_near holder (own_name from.file)))
    || (has_no_access_flag flags && is_near holder (own_name from.file))
    || (has_flag flag.PRIVATE flags && is_called holder from.file)
