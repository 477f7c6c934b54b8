-- The slot of a static field and the place of another, against what the definition says of the field.
use Rattle.std.specs.Prelude.{◌≡◌, ℕ, true, Some, Result, Ok, Err}
use Rattle.mvm_member.specs.Members.{MemberName, place_of}
use Rattle.mvm_set.specs.declared.class.Lineage.{Lineage}
use Rattle.mvm_mirror.specs.Seen.{slot_in}
use Rattle.mvm_isolate.specs.Numbered.{Numbered, class_at, look_of, name_at, IsSlot}
use Rattle.mvm_isolate.specs.Types.{of_class, suits}
use Rattle.mvm_isolate.specs.declared.stop.Stop.{Stop}

-- the class declares the field, or the attempt stops for what the definition says
abbrev pub HasSlot : Result ℕ Stop → Result (Unit {0}) Stop → Type 0
HasSlot (Ok slot) definition = definition ≡ Ok tt
HasSlot (Err stop) definition = definition ≡ Err stop

-- the slot of the static field of this name and descriptor that the class of a number declares
pub record IsSlotOf (n : Numbered) (mirror : ℕ) (m : MemberName) (slot : ℕ) : Type 0 where
  pub there : IsSlot n mirror slot
  pub is : slot_in m.name m.desc (class_at n mirror) ≡ Some slot

-- the place in an object of the field that the class of a number declares, and the number of a class whose objects are of that class
pub record IsPlacedAt (n : Numbered) (mirror : ℕ) (m : MemberName) (place receiver : ℕ) : Type 0 where
  pub placed : (class : Lineage) → class_at n mirror ≡ Some class → place_of m.name m.desc class ≡ Some place
  pub suited : suits (look_of n) (of_class (name_at n receiver)) (of_class m.class) ≡ true
