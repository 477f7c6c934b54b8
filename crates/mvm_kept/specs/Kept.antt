-- What is kept of the entries of constant pools that were looked up, against what the definitions give (JVM Specification 5.4.3).
use Rattle.std.specs.Prelude.{◌≡◌, ℕ, List, All, Bool, true, false, Option, Some, Result, Ok, IfSome}
use Rattle.mvm_base.specs.Answers.{◌>>=◌}
use Rattle.mvm_set.specs.Names.{own_name}
use Rattle.mvm_set.specs.declared.class.Lineage.{Lineage}
use Rattle.mvm_table.specs.Slots.{instance_fields}
use Rattle.mvm_base.specs.declared.value.Word.{Word}
use Rattle.mvm_base.specs.declared.value.Word.TheVariants.{Int, Long}
use Rattle.mvm_table.specs.declared.resolved.Resolved.{Resolved}
use Rattle.mvm_table.specs.declared.resolved.Resolved.TheVariants as resolved
use Rattle.mvm_member.specs.Members.{MemberName, field_named}
use Rattle.mvm_isolate.specs.Faults.{looked_up}
use Rattle.mvm_isolate.specs.Look.{Look}
use Rattle.mvm_isolate.specs.Numbered.{Numbered, look_of, name_at, IsClass}
use Rattle.mvm_isolate.specs.Types.{ReferenceType, of_class, suits}
use Rattle.mvm_isolate.specs.declared.stop.Stop.{Stop}
use Rattle.mvm_current.specs.Entries.{a_type, entry_at, field_in}
use Rattle.mvm_current.specs.Frames.{Frame}
use Rattle.mvm_object.specs.Objects.{class_of_objects}
use Rattle.mvm_object.specs.Slots.{IsPlacedAt, IsSlotOf}
use Rattle.mvm_kept.specs.declared.entry.InstanceAt.{InstanceAt}
use Rattle.mvm_kept.specs.declared.entry.ObjectsAt.{ObjectsAt}
use Rattle.mvm_kept.specs.declared.entry.StaticAt.{StaticAt}
use Rattle.mvm_kept.specs.declared.entry.TestAt.{TestAt}
use Rattle.mvm_kept.specs.declared.entry.Meaning.{Meaning}
use Rattle.mvm_kept.specs.declared.entry.Meaning.TheVariants.{Static, Instance, Objects, Test, Number}
use Rattle.mvm_kept.specs.declared.entry.Entry.{Entry}

-- the entry of an index of the constant pool of the class of a number, resolved
abbrev pub entry_of : Numbered → ℕ → ℕ → Result Resolved Stop
entry_of n home index = looked_up ((look_of n).entry (name_at n home) index)

-- the type that it names
abbrev pub type_of_entry : Numbered → ℕ → ℕ → Result ReferenceType Stop
type_of_entry n home index = entry_of n home index >>= a_type

-- the class with objects that the entry of an index names to a frame
abbrev pub class_entry : Look → ℕ → Frame → Result Lineage Stop
class_entry look index f = entry_at look index f >>= class_of_objects

-- the class that it names, which may have objects
abbrev pub objects_of : Numbered → ℕ → ℕ → Result Lineage Stop
objects_of n home index = entry_of n home index >>= class_of_objects

-- the field that it names, which is static or is not
abbrev pub field_of : Numbered → Bool → ℕ → ℕ → Result MemberName Stop
field_of n static home index = entry_of n home index >>= field_in static

-- the definition gives the names of the static field, and the class of the number declares it in this slot
pub record HasStatic (n : Numbered) (at : StaticAt) (definition : Result MemberName Stop) : Type 0 where
  pub member : MemberName
  pub is_member : field_named at.field ≡ Some member
  pub is_entry : definition ≡ Ok member
  pub there : IsClass n at.mirror
  pub is_class : name_at n at.mirror ≡ member.class
  pub has_slot : IsSlotOf n at.mirror member at.slot

-- the definition gives the names of the field, and the class of the number declares it at this place, where objects of the receiver have it
pub record HasInstance (n : Numbered) (at : InstanceAt) (definition : Result MemberName Stop) : Type 0 where
  pub member : MemberName
  pub is_member : field_named at.field ≡ Some member
  pub is_entry : definition ≡ Ok member
  pub there : IsClass n at.mirror
  pub is_class : name_at n at.mirror ≡ member.class
  pub receives : IsClass n at.placed.receiver
  pub has_place : IsPlacedAt n at.mirror member at.placed.place at.placed.receiver

-- the definition gives the class of the number, whose objects have so many fields
pub record HasObjects (n : Numbered) (at : ObjectsAt) (definition : Result Lineage Stop) : Type 0 where
  pub class : Lineage
  pub is_entry : definition ≡ Ok class
  pub there : IsClass n at.mirror
  pub is_name : own_name class.file ≡ Some (name_at n at.mirror)
  pub are_fields : instance_fields class.line ≡ at.fields

-- the definition gives a type, of which objects of the receiver are instances or are not
pub record HasTest (n : Numbered) (at : TestAt) (definition : Result ReferenceType Stop) : Type 0 where
  pub type : ReferenceType
  pub is_entry : definition ≡ Ok type
  pub receives : IsClass n at.receiver
  pub suited : suits (look_of n) (of_class (name_at n at.receiver)) type ≡ at.is

-- the definition gives the int or the long that the word is
abbrev pub IsNumber : Word → Result Resolved Stop → Type 0
IsNumber (Int value) definition = definition ≡ Ok (resolved.Int value)
IsNumber (Long value) definition = definition ≡ Ok (resolved.Long value)
IsNumber _ definition = ⊥

-- what an entry means, by the definition
abbrev pub Means : Numbered → ℕ → ℕ → Meaning → Type 0
Means n home index (Static at) = HasStatic n at (field_of n true home index)
Means n home index (Instance at) = HasInstance n at (field_of n false home index)
Means n home index (Objects at) = HasObjects n at (objects_of n home index)
Means n home index (Test at) = HasTest n at (type_of_entry n home index)
Means n home index (Number word) = IsNumber word (entry_of n home index)

pub record IsKept (n : Numbered) (entry : Entry) : Type 0 where
  pub from : IsClass n entry.home
  pub means : Means n entry.home entry.index entry.meaning

abbrev pub IsRow : Numbered → Option Entry → Type 0
IsRow n row = IfSome row (IsKept n)

-- all that is kept is what the definitions give
abbrev pub AreKept : Numbered → List (Option Entry) → Type 0
AreKept n rows = All (IsRow n) rows
