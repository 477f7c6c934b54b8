-- A class put together from its file and from the classes of its direct superclass and superinterfaces.
use Rattle.std.specs.Prelude.{◌≡◌, ◌<◌, ◌^◌, ℕ, List, [], ◌∷◌, ◌++◌, length, map, not, take}
use Rattle.std.specs.List.{filter}
use Rattle.mvm_layout.specs.declared.parts.Parts.{Parts}
use Rattle.mvm_shape.specs.Members.{same_text}
use Rattle.mvm_set.specs.ClassOf.{own_walk_name}
use Rattle.mvm_set.specs.Names.{own_name}
use Rattle.mvm_set.specs.Once.{once}
use Rattle.mvm_set.specs.declared.own.OwnWalk.{OwnWalk}
use Rattle.mvm_set.specs.declared.class.Lineage.{Lineage}

abbrev pub file_of : OwnWalk → Parts
file_of own = own.file

-- the file of a class, with the files of its walk
abbrev pub itself : Lineage → OwnWalk
itself class = record { file = class.file; walk = map file_of class.walk }

-- the lists of these classes, one after the other
abbrev pub lines_of : List Lineage → List OwnWalk
lines_of [] = []
lines_of (class ∷ classes) = class.line ++ lines_of classes

abbrev pub walks_of : List Lineage → List OwnWalk
walks_of [] = []
walks_of (class ∷ classes) = class.walk ++ walks_of classes

abbrev pub checked_of : List Lineage → List OwnWalk
checked_of [] = []
checked_of (class ∷ classes) = class.checked ++ checked_of classes

-- the superinterfaces of each of these classes, then the class itself
abbrev pub enumerated_of : List Lineage → List OwnWalk
enumerated_of [] = []
enumerated_of (class ∷ classes) = class.superinterfaces ++ itself class ∷ enumerated_of classes

-- those of another class than the file's, each name once
abbrev pub others_than : Parts → List OwnWalk → List OwnWalk
others_than file owns = filter (λ own. not (same_text (own_walk_name own) (own_name file))) (once own_walk_name owns)

-- a file with its walk, where the others of the walk are these
abbrev pub own_of : Parts → List OwnWalk → OwnWalk
own_of file others = record { file = file; walk = file ∷ map file_of others }

-- a file, with its walk: itself, what its superinterfaces have, what its superclass has, each once
unfoldable pub own_over : Parts → List Lineage → List Lineage → OwnWalk
own_over file above across = record {
  file = file;
  walk = once own_name (file ∷ map file_of (walks_of across ++ walks_of above));
}

-- the class of a file over its superclass and its superinterfaces
unfoldable pub class_over : ℕ → Parts → List Lineage → List Lineage → Lineage
class_over set file above across = record {
  set = set;
  file = file;
  line = own_over file above across ∷ lines_of above;
  walk = once own_walk_name (own_over file above across ∷ walks_of across ++ walks_of above);
  checked = once own_walk_name (own_over file above across ∷ checked_of above ++ checked_of across);
  superinterfaces = once own_walk_name (enumerated_of across);
}

-- What every class keeps: it stands itself at the front of its line, each name stands once in each of its other lists, and the places
-- of its walk and of its superinterfaces can be counted in 32 bits.
pub record IsClass (class : Lineage) : Type 0 where
  pub first : take 1 class.line ≡ itself class ∷ []
  pub few : length class.walk < 2 ^ 32
  pub few_superinterfaces : length class.superinterfaces < 2 ^ 32
  pub walk_once : once own_walk_name class.walk ≡ class.walk
  pub checked_once : once own_walk_name class.checked ≡ class.checked
  pub superinterfaces_once : once own_walk_name class.superinterfaces ≡ class.superinterfaces
