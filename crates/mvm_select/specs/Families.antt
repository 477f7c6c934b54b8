-- What a load keeps of a class with all from which it inherits (JVM Specification 5.3.5).
use Rattle.std.specs.Prelude.{◌≡◌, List, ◌∷◌, ◌++◌, true, All}
use Rattle.mvm_layout.specs.declared.parts.Parts.{Parts}
use Rattle.mvm_set.specs.Family.{Family, family, Families, none, more, file, Among}
use Rattle.mvm_set.specs.Names.{is_same}

-- the one is the class, or the class inherits from it
abbrev pub Stands : Family → Family → Type 0
Stands class one = Among one (more class none)

abbrev pub class_above : Family → Families
class_above (family parts above across) = above

abbrev pub IsOneAtMost : Families → Type 0
IsOneAtMost none = Unit {0}
IsOneAtMost (more one others) = others ≡ none

pub record IsWhole (class : Family) : Type 0 where
  -- each of them has one superclass at most
  pub single : (one : Family) → Stands class one → IsOneAtMost (class_above one)
  -- each has a name
  pub named : (one : Family) → Stands class one → is_same (file one) (file one) ≡ true
  -- those of one name are one
  pub alike : (one other : Family) → Stands class one → Stands class other → is_same (file one) (file other) ≡ true → one ≡ other

-- among them the file of the base's name is the base
abbrev pub IsKnown : Parts → Family → Type 0
IsKnown base class = (one : Family) → Stands class one → is_same (file one) base ≡ true → file one ≡ base

-- the first of a list that is wanted
pub record IsFirst {A : Type 0} (Wanted : A → Type 0) (items : List A) (item : A) : Type 0 where
  pub before : List A
  pub behind : List A
  pub splits : items ≡ before ++ item ∷ behind
  pub is_wanted : Wanted item
  pub none_before : All (λ other. Wanted other → ⊥) before

-- none of a list is wanted
abbrev pub IsNone : {A : Type 0} → (A → Type 0) → List A → Type 0
IsNone Wanted items = All (λ other. Wanted other → ⊥) items
