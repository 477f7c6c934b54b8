-- What stands for a family in memory: lists of files, of which each stands with its own order of field resolution, so that
-- nothing has to be walked again.
use Rattle.std.specs.Prelude.{ℕ, List, [], ◌∷◌, map, Option}
use Rattle.mvm_set.specs.Family.{Family, Families, none, more, file, line, walk, checked, superinterfaces}
use Rattle.mvm_set.specs.Names.{own_name}
use Rattle.mvm_set.specs.declared.own.OwnWalk.{OwnWalk}
use Rattle.mvm_set.specs.declared.class.Lineage.{Lineage}

-- the name of the class of a file that stands with its walk
abbrev pub own_walk_name : OwnWalk → Option (List ℕ)
own_walk_name own = own_name own.file

-- the file of a class, with the files of its walk
unfoldable pub own_walk : Family → OwnWalk
own_walk one = record { file = file one; walk = map file (walk one) }

-- the class of a set that stands for a family
unfoldable pub class_of : ℕ → Family → Lineage
class_of set one = record {
  set = set;
  file = file one;
  line = map own_walk (line one);
  walk = map own_walk (walk one);
  checked = map own_walk (checked one);
  superinterfaces = map own_walk (superinterfaces one);
}

-- the classes of these families
abbrev pub classes_of : ℕ → Families → List Lineage
classes_of set none = []
classes_of set (more one others) = class_of set one ∷ classes_of set others
