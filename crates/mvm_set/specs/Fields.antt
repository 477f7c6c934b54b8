-- Resolution of fields (JVM Specification 5.4.3.2): the rule over a class with all that it inherits from, and what it is over a
-- class's walk. What is looked for is any function that tells the place of a member in a file that has it.
use Rattle.std.specs.Prelude.{ℕ, ◌+◌, List, [], ◌∷◌, Option, Some, None, Result, Ok, Err, slice_get}
use Rattle.mvm_layout.specs.declared.parts.Parts.{Parts}
use Rattle.mvm_set.specs.Family.{Family, family, Families, none, more, file}
use Rattle.mvm_set.specs.Members.{field_at}
use Rattle.mvm_set.specs.Once.{or_else}
use Rattle.mvm_set.specs.declared.class.Lineage.{Lineage}
use Rattle.mvm_set.specs.declared.fault.LinkFault.{LinkFault}
use Rattle.mvm_set.specs.declared.fault.LinkFault.TheVariants.{NoField}
use Rattle.mvm_set.specs.declared.found.Found.{Found}
use Rattle.mvm_set.specs.declared.own.OwnWalk.{OwnWalk}

-- ---- the rule

-- The class, then its direct superinterfaces in order by this rule, then its superclass by this rule: the first of them that has
-- what is looked for.
unfoldable mutual
  pub first_in : {A : Type 0} → (Family → Option A) → Family → Option A
  first_in look (family parts above across) = or_else (look (family parts above across)) (or_else (first_of look across) (first_of look above))

  pub first_of : {A : Type 0} → (Family → Option A) → Families → Option A
  first_of look none = None
  first_of look (more one others) = or_else (first_in look one) (first_of look others)

-- a class, and the place of a member in its file
abbrev pub Place : Type 0
Place = Family × ℕ

abbrev pub place_in : Family → Option ℕ → Option Place
place_in one (Some index) = Some (one, index)
place_in one None = None

-- what a look-up in a file finds in that of a class
abbrev pub declared_by : (Parts → Option ℕ) → Family → Option Place
declared_by look one = place_in one (look (file one))

-- ---- the same over a walk

abbrev pub or_found : ℕ → Option ℕ → Option Found → Option Found
or_found at (Some index) other = Some (record { holder = at; index = index })
or_found at None other = other

-- the first of a walk that has it, counted on from a place
abbrev pub found_from : ℕ → (Parts → Option ℕ) → List OwnWalk → Option Found
found_from at look [] = None
found_from at look (own ∷ owns) = or_found at (look own.file) (found_from (at + 1) look owns)

-- the first of a class's walk that has it
unfoldable pub found_in : (Parts → Option ℕ) → Lineage → Option Found
found_in look class = found_from 0 look class.walk

abbrev pub or_fault : LinkFault → Option Found → Result Found LinkFault
or_fault fault (Some found) = Ok found
or_fault fault None = Err fault

-- the field of this name and descriptor of a class
unfoldable pub field_found : Lineage → List ℕ → List ℕ → Result Found LinkFault
field_found class name desc = or_fault NoField (found_in (field_at name desc) class)

-- ---- what was found, among the classes of a walk

abbrev pub placed : ℕ → Option Family → Option Place
placed index (Some one) = Some (one, index)
placed index None = None

abbrev pub told : List Family → Option Found → Option Place
told classes (Some found) = placed found.index (slice_get classes found.holder)
told classes None = None
