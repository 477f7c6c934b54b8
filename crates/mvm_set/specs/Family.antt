-- A class with all that it inherits from, as a tree, and the orders in which that is walked (JVM Specification 5.3.5, 5.4, 5.5).
use Rattle.std.specs.Prelude.{ℕ, List, [], ◌∷◌, ◌++◌, Option, None}
use Rattle.mvm_layout.specs.declared.parts.Parts.{Parts}
use Rattle.mvm_set.specs.Names.{own_name}
use Rattle.mvm_set.specs.Once.{once, or_else}

mutual
  -- a class: its file, its superclass if it has one, its direct superinterfaces in their order
  pub data Family : Type 0 where
    family : Parts → Families → Families → Family

  pub data Families : Type 0 where
    none : Families
    more : Family → Families → Families

abbrev pub file : Family → Parts
file (family parts above across) = parts

abbrev pub name : Family → Option (List ℕ)
name one = own_name (file one)

-- ---- what a class inherits from

-- one of these, or one that they inherit from
pub data Among : Family → Families → Type 0 where
  first : {one : Family} {others : Families} → Among one (more one others)
  later : {one other : Family} {others : Families} → Among one others → Among one (more other others)
  over_first : {one : Family} {parts : Parts} {above across others : Families} → Among one above → Among one (more (family parts above across) others)
  across_first : {one : Family} {parts : Parts} {above across others : Families} → Among one across → Among one (more (family parts above across) others)

-- the class inherits from that one
pub data Inherits : Family → Family → Type 0 where
  from_class : {parts : Parts} {above across : Families} {one : Family} → Among one above → Inherits (family parts above across) one
  from_interface : {parts : Parts} {above across : Families} {one : Family} → Among one across → Inherits (family parts above across) one

-- one of these interfaces, or one of their superinterfaces
pub data Extended : Family → Families → Type 0 where
  direct : {one : Family} {others : Families} → Extended one (more one others)
  direct_later : {one other : Family} {others : Families} → Extended one others → Extended one (more other others)
  extended_first : {one : Family} {parts : Parts} {above across others : Families} → Extended one across → Extended one (more (family parts above across) others)

-- it is a superinterface of the class, by the direct superinterfaces of the class alone: those of its superclass are not among them
abbrev pub IsSuperinterface : Family → Family → Type 0
IsSuperinterface one (family parts above across) = Extended one across

-- ---- the superclasses

-- the class and its superclasses, nearest first
unfoldable mutual
  pub line : Family → List Family
  line (family parts above across) = family parts above across ∷ lines above

  pub lines : Families → List Family
  lines none = []
  lines (more one others) = line one ++ lines others

-- ---- the order of field resolution (5.4.3.2)

-- the class, then its direct superinterfaces in order by this rule, then its superclass by this rule
unfoldable mutual
  pub visited : Family → List Family
  visited (family parts above across) = family parts above across ∷ all_visited across ++ all_visited above

  pub all_visited : Families → List Family
  all_visited none = []
  all_visited (more one others) = visited one ++ all_visited others

-- each class once, at its first place
unfoldable pub walk : Family → List Family
walk one = once name (visited one)

-- ---- the order of verification (5.4.1)

-- the class, then its superclass by this rule, then its direct superinterfaces in order by this rule
unfoldable mutual
  pub order : Family → List Family
  order (family parts above across) = family parts above across ∷ orders above ++ orders across

  pub orders : Families → List Family
  orders none = []
  orders (more one others) = order one ++ orders others

-- each class once, at its first place
unfoldable pub checked : Family → List Family
checked one = once name (order one)

-- ---- the order in which superinterfaces are initialised (5.5, step 7)

-- the superinterfaces of the interface by this rule, then the interface
unfoldable mutual
  pub enumerated : Family → List Family
  enumerated (family parts above across) = all_enumerated across ++ family parts above across ∷ []

  -- for each of these interfaces in order
  pub all_enumerated : Families → List Family
  all_enumerated none = []
  all_enumerated (more one others) = enumerated one ++ all_enumerated others

-- the superinterfaces of a class, each once, at its first place
unfoldable pub superinterfaces : Family → List Family
superinterfaces (family parts above across) = once name (all_enumerated across)

-- ---- faults

-- The class, then its superclass by this rule, then its direct superinterfaces in order by this rule: the first fault that a check
-- tells.
unfoldable mutual
  pub fault_in : {A : Type 0} → (Family → Option A) → Family → Option A
  fault_in check (family parts above across) = or_else (check (family parts above across)) (or_else (fault_of check above) (fault_of check across))

  pub fault_of : {A : Type 0} → (Family → Option A) → Families → Option A
  fault_of check none = None
  fault_of check (more one others) = or_else (fault_in check one) (fault_of check others)
