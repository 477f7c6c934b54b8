-- Of the load without recursion: the classes that are begun, each over its supers so far, and what is left to do of each.
use Rattle.std.specs.Prelude.{◌≡◌, ◌<◌, ℕ, zero, suc, ◌+◌, ◌-◌, List, [], ◌∷◌, ◌++◌, drop, map, length, slice_get, Bool, true, false, is_some, Option, Some, None, Result, Ok, Err}
use Rattle.std.specs.Option.{option_map}
use Rattle.mvm_base.specs.Answers.{◌>>=◌, Fails}
use Rattle.mvm_layout.specs.Pool.{class_name}
use Rattle.mvm_layout.specs.declared.parts.Parts.{Parts}
use Rattle.mvm_set.specs.Names.{names_at, superclass, superinterfaces}
use Rattle.mvm_set.specs.Over.{class_over}
use Rattle.mvm_set.specs.declared.class.Lineage.{Lineage}
use Rattle.mvm_table.specs.Files.{File}
use Rattle.mvm_table.specs.Load.{is_in, may_stand, found, known, load_on}
use Rattle.mvm_table.specs.Loads.{classed}
use Rattle.mvm_table.specs.NameMap.{Rows, row, Puts}
use Rattle.mvm_table.specs.Work.{unpassed}
use Rattle.mvm_table.specs.declared.begun.Begun.{Begun}
use Rattle.mvm_table.specs.declared.fault.LoadFault.{LoadFault}
use Rattle.mvm_table.specs.declared.fault.LoadFault.TheVariants.{OutOfMemory}
use Rattle.mvm_table.specs.declared.begun.Super.{Super}
use Rattle.mvm_table.specs.declared.begun.Super.TheVariants.{Ready, Waiting, New}

-- ---- the rules of loading, over classes in place of the families that they stand for

abbrev pub Load : Type 0
Load = List ℕ → Result Lineage LoadFault

abbrev pub class_loaded : Load → Bool → List ℕ → List ℕ → Result Lineage LoadFault
class_loaded load as_interface name super = load super >>= λ class. may_stand as_interface name class.file >>= λ stands. Ok class

abbrev pub classes_loaded : Load → Bool → List ℕ → List (List ℕ) → Result (List Lineage) LoadFault
classes_loaded load as_interface name [] = Ok []
classes_loaded load as_interface name (super ∷ supers) =
    class_loaded load as_interface name super >>= λ class. classes_loaded load as_interface name supers >>= λ others. Ok (class ∷ others)

-- the class of a file of this name
unfoldable pub class_by : ℕ → Load → List ℕ → Parts → Result Lineage LoadFault
class_by set load name file =
    classes_loaded load false name (superclass file) >>= λ above.
    classes_loaded load true name (superinterfaces file) >>= λ across. Ok (class_over set file above across)

-- the class of a name on a path, with more names left than there are
unfoldable pub on_path : ℕ → List File → List (List ℕ) → Load
on_path set files path name = classed set (load_on (length (known files) + 1) (found files) path name)

-- ---- a class that is begun

abbrev pub listed : Option Lineage → List Lineage
listed (Some class) = class ∷ []
listed None = []

-- what the indices of its supers name: first that of the superclass, then those of the superinterfaces in order
abbrev pub super_at : Parts → ℕ → Option (Option (List ℕ))
super_at file zero = Some (class_name file.pool file.super_class)
super_at file (suc at) = option_map (class_name file.pool) (slice_get file.interfaces at)

abbrev pub is_interface_place : ℕ → Bool
is_interface_place zero = false
is_interface_place (suc at) = true

-- the class, where its superinterfaces from this place on are still to be loaded
abbrev pub across_from : ℕ → Load → Begun → List Lineage → ℕ → Result Lineage LoadFault
across_from set load begun above at =
    classes_loaded load true begun.name (names_at begun.file.pool (drop at begun.file.interfaces)) >>= λ others.
    Ok (class_over set begun.file above (begun.across ++ others))

abbrev pub left_from : ℕ → Load → Begun → ℕ → Result Lineage LoadFault
left_from set load begun zero = classes_loaded load false begun.name (superclass begun.file) >>= λ above. across_from set load begun above 0
left_from set load begun (suc at) = across_from set load begun (listed begun.above) at

-- the class, where what is left to do of it is done
unfoldable pub left_of : ℕ → Load → Begun → Result Lineage LoadFault
left_of set load begun = left_from set load begun begun.next

-- one super more: none where the index names none
abbrev pub taken_at : ℕ → Begun → Option Lineage → Begun
taken_at zero begun class = record { name = begun.name; file = begun.file; above = class; across = begun.across; next = 1 }
taken_at (suc at) begun class = record { name = begun.name; file = begun.file; above = begun.above; across = begun.across ++ listed class; next = suc (suc at) }

unfoldable pub taken : Begun → Option Lineage → Begun
taken begun class = taken_at begun.next begun class

-- the class of a file of which nothing is done
abbrev pub begun_of : List ℕ → Parts → Begun
begun_of name file = record { name = name; file = file; above = None; across = []; next = 0 }

-- the class of a file that was found
abbrev pub began : List ℕ → Result Parts LoadFault → Result Begun LoadFault
began name found = found >>= λ file. Ok (begun_of name file)

-- ---- those that are begun, each for the sake of the one before

abbrev pub name_of : Begun → List ℕ
name_of begun = begun.name

abbrev pub names_of : List Begun → List (List ℕ)
names_of begun = map name_of begun

-- the next one is the super that this one waits for
abbrev pub WaitsFor : Begun → List Begun → Type 0
WaitsFor begun [] = Unit {0}
WaitsFor begun (next ∷ others) = super_at begun.file begun.next ≡ Some (Some next.name)

-- one of them, on a path
pub record Stands (set : ℕ) (files : List File) (path : List (List ℕ)) (begun : Begun) (others : List Begun) : Type 0 where
  pub is_found : found files begun.name ≡ Ok begun.file
  pub is_off : is_in path begun.name ≡ false
  pub is_left : on_path set files path begun.name ≡ left_of set (on_path set files (path ++ begun.name ∷ [])) begun
  pub waits : WaitsFor begun others

abbrev pub AllStand : ℕ → List File → List (List ℕ) → List Begun → Type 0
AllStand set files path [] = Unit {0}
AllStand set files path (begun ∷ others) = Stands set files path begun others × AllStand set files (path ++ begun.name ∷ []) others

-- the first of them is that of this name
abbrev pub IsRooted : List ℕ → List Begun → Type 0
IsRooted root [] = Unit {0}
IsRooted root (begun ∷ others) = begun.name ≡ root

-- ---- the names that were met: each is begun, or its class is there

abbrev pub is_begun : Option (Option Lineage) → Bool
is_begun (Some None) = true
is_begun _ = false

abbrev pub is_met : Rows (Option Lineage) → List ℕ → Bool
is_met met name = is_some (row name met)

-- each class that was finished is the one that loading gives for its name
pub record AreLoaded (set : ℕ) (files : List File) (met : Rows (Option Lineage)) : Type 0 where
  pub each : (name : List ℕ) (class : Lineage) → row name met ≡ Some (Some class) → on_path set files [] name ≡ Ok class

-- the names that are begun are those of the path
pub record IsPath (begun : List Begun) (met : Rows (Option Lineage)) : Type 0 where
  pub each : (name : List ℕ) → is_in (names_of begun) name ≡ is_begun (row name met)

-- the load of the class of this name is under way
pub record IsLoading (set : ℕ) (files : List File) (root : List ℕ) (begun : List Begun) (met : Rows (Option Lineage)) : Type 0 where
  pub stand : AllStand set files [] begun
  pub rooted : IsRooted root begun
  pub path : IsPath begun met
  pub loaded : AreLoaded set files met

-- ---- how much there is to do

-- of a class that is begun: its indices from the next on, and to put it together
abbrev pub steps_left : Begun → ℕ
steps_left begun = (length begun.file.interfaces + 1 - begun.next) + 1

abbrev pub all_left : List Begun → ℕ
all_left [] = 0
all_left (begun ∷ others) = steps_left begun + all_left others

abbrev pub steps_of : Result Parts LoadFault → ℕ
steps_of (Ok file) = length file.interfaces + 3
steps_of (Err fault) = 0

abbrev pub weight : List File → List ℕ → ℕ
weight files name = steps_of (found files name)

-- of the whole load: the names that were not met, and those that are begun
unfoldable pub to_do : List File → List Begun → Rows (Option Lineage) → ℕ
to_do files begun met = unpassed (weight files) (is_met met) (known files) + all_left begun

-- ---- what one step of the load answers

-- where the load of the class of this name goes on, there is less to do than before; where it ends, the answer is that of the definition
abbrev pub Goes : ℕ → List File → List ℕ → ℕ → Result (Option Lineage) LoadFault → List Begun → Rows (Option Lineage) → Type 0
Goes set files root before (Ok None) begun met = IsLoading set files root begun met × (to_do files begun met < before)
Goes set files root before (Ok (Some class)) begun met = on_path set files [] root ≡ Ok class
Goes set files root before (Err fault) begun met = Fails OutOfMemory fault (on_path set files [] root)

-- what is known of a super's name
abbrev pub Known : ℕ → List File → Rows (Option Lineage) → List ℕ → Super → Type 0
Known set files met name (Ready class) = on_path set files [] name ≡ Ok class
Known set files met name Waiting = row name met ≡ Some None
Known set files met name New = row name met ≡ None

-- A class of which all supers are there is the answer where no other is begun; else it stands under its name for those that wait.
abbrev pub Closes : List Begun → List ℕ → Lineage → Rows (Option Lineage) → Rows (Option Lineage) → Option Lineage → Type 0
Closes begun name class old new (Some answer) = (begun ≡ []) × (answer ≡ class) × (new ≡ old)
Closes begun name class old new None = Puts old name (Some class) new
