-- What is kept stays what the definitions give where an isolate grows.
use Rattle.std.proofs.Common.{◌≡◌, ◌∙◌, ℕ, List, Option, Some, None, Bool, true, false, Result, Ok, refl, sym, ap, subst}
use Rattle.std.specs.Prelude.{◌≢◌, All, IfSome}
use Rattle.std.proofs.lemmas.List.Elements.{All-weaker}
use Rattle.mvm_base.specs.Answers.{◌>>=◌}
use Rattle.mvm_frame.specs.Parts.{StackParts}
use Rattle.mvm_frame.specs.declared.key.FrameKey.{FrameKey}
use Rattle.mvm_member.specs.Members.{MemberName}
use Rattle.mvm_mirror.specs.Seen.{slot_in, slots_in}
use Rattle.mvm_set.specs.declared.class.Lineage.{Lineage}
use Rattle.mvm_table.specs.declared.resolved.Resolved.{Resolved}
use Rattle.mvm_isolate.specs.Faults.{looked_up}
use Rattle.mvm_isolate.specs.Look.{Look}
use Rattle.mvm_isolate.specs.Numbered.{Numbered, look_of, class_at, name_at, IsClass, IsSlot}
use Rattle.mvm_isolate.specs.Sound.{Grows}
use Rattle.mvm_isolate.specs.Types.{ReferenceType, of_class, suits}
use Rattle.mvm_isolate.specs.declared.stop.Stop.{Stop}
use Rattle.mvm_current.specs.Entries.{a_type, entry_at, field_in, field_entry, type_entry}
use Rattle.mvm_current.specs.Keys.{top_named, AreKeys, IsKey, RunsMethod}
use Rattle.mvm_current.specs.declared.key.TheConstants.{NO_METHOD}
use Rattle.mvm_current.proofs.Called.{entry_found}
use Rattle.mvm_current.proofs.Growth.{class_grows, is_class_grows, name_grows}
use Rattle.mvm_object.proofs.Points.{look_grows}
use Rattle.mvm_object.specs.Objects.{class_of_objects}
use Rattle.mvm_object.specs.Slots.{IsPlacedAt, IsSlotOf}
use Rattle.mvm_kept.specs.Kept.{entry_of, field_of, objects_of, HasInstance, HasObjects, HasStatic, HasTest, type_of_entry, IsNumber, Means, IsKept, IsRow, AreKept}
use Rattle.mvm_kept.specs.declared.entry.InstanceAt.{InstanceAt}
use Rattle.mvm_kept.specs.declared.entry.ObjectsAt.{ObjectsAt}
use Rattle.mvm_kept.specs.declared.entry.StaticAt.{StaticAt}
use Rattle.mvm_kept.specs.declared.entry.TestAt.{TestAt}
use Rattle.mvm_kept.specs.declared.entry.Meaning.{Meaning}
use Rattle.mvm_kept.specs.declared.entry.Meaning.TheVariants.{Static, Instance, Objects, Test, Number}
use Rattle.mvm_base.specs.declared.value.Word.{Word}
use Rattle.mvm_kept.specs.declared.entry.Entry.{Entry}

-- ---- what is kept

entry_grows : (old new : Numbered) (home index : ℕ) → Grows old new → IsClass old home → entry_of new home index ≡ entry_of old home index
entry_grows old new home index grows is =
    ap (λ (name : List ℕ). looked_up ((look_of new).entry name index)) (name_grows old new home grows is)
    ∙ ap (λ (look : Look). looked_up (look.entry (name_at old home) index)) (sym (look_grows old new grows))

pub field_grows : (old new : Numbered) (static : Bool) (home index : ℕ) → Grows old new → IsClass old home → field_of new static home index ≡ field_of old static home index
field_grows old new static home index grows is = ap (λ (found : Result Resolved Stop). found >>= field_in static) (entry_grows old new home index grows is)

slot_grows : (old new : Numbered) (mirror : ℕ) (m : MemberName) (slot : ℕ) → Grows old new → IsClass old mirror → IsSlotOf old mirror m slot → IsSlotOf new mirror m slot
slot_grows old new mirror m slot grows is has = record {
  there = rw (class_grows old new mirror grows is) has.there;
  is = rw (class_grows old new mirror grows is) has.is;
}

pub static_grows : (old new : Numbered) (at : StaticAt) (before after : Result MemberName Stop) → Grows old new → after ≡ before → HasStatic old at before → HasStatic new at after
static_grows old new at before after grows e has = record {
  member = has.member;
  is_member = has.is_member;
  is_entry = e ∙ has.is_entry;
  there = is_class_grows old new at.mirror grows has.there;
  is_class = name_grows old new at.mirror grows has.there ∙ has.is_class;
  has_slot = slot_grows old new at.mirror has.member at.slot grows has.there has.has_slot;
}

placed_grows : (old new : Numbered) (mirror : ℕ) (m : MemberName) (place receiver : ℕ) → Grows old new → IsClass old mirror → IsClass old receiver
    → IsPlacedAt old mirror m place receiver → IsPlacedAt new mirror m place receiver
placed_grows old new mirror m place receiver grows is receives has = record {
  placed = λ class e. has.placed class (sym (class_grows old new mirror grows is) ∙ e);
  suited = subst (λ (look : Look). suits look (of_class (name_at new receiver)) (of_class m.class) ≡ true) (look_grows old new grows)
      (subst (λ (name : List ℕ). suits (look_of old) (of_class name) (of_class m.class) ≡ true) (sym (name_grows old new receiver grows receives)) has.suited);
}

pub instance_grows : (old new : Numbered) (at : InstanceAt) (before after : Result MemberName Stop) → Grows old new → after ≡ before → HasInstance old at before → HasInstance new at after
instance_grows old new at before after grows e has = record {
  member = has.member;
  is_member = has.is_member;
  is_entry = e ∙ has.is_entry;
  there = is_class_grows old new at.mirror grows has.there;
  is_class = name_grows old new at.mirror grows has.there ∙ has.is_class;
  receives = is_class_grows old new at.placed.receiver grows has.receives;
  has_place = placed_grows old new at.mirror has.member at.placed.place at.placed.receiver grows has.there has.receives has.has_place;
}

objects_grow : (old new : Numbered) (at : ObjectsAt) (before after : Result Lineage Stop) → Grows old new → after ≡ before → HasObjects old at before → HasObjects new at after
objects_grow old new at before after grows e has = record {
  class = has.class;
  is_entry = e ∙ has.is_entry;
  there = is_class_grows old new at.mirror grows has.there;
  is_name = has.is_name ∙ ap (λ (name : List ℕ). Some name) (sym (name_grows old new at.mirror grows has.there));
  are_fields = has.are_fields;
}

objects_stay : (old new : Numbered) (home index : ℕ) → Grows old new → IsClass old home → objects_of new home index ≡ objects_of old home index
objects_stay old new home index grows is = ap (λ (found : Result Resolved Stop). found >>= class_of_objects) (entry_grows old new home index grows is)

test_grows : (old new : Numbered) (at : TestAt) (before after : Result ReferenceType Stop) → Grows old new → after ≡ before → HasTest old at before → HasTest new at after
test_grows old new at before after grows e has = record {
  type = has.type;
  is_entry = e ∙ has.is_entry;
  receives = is_class_grows old new at.receiver grows has.receives;
  suited = subst (λ (look : Look). suits look (of_class (name_at new at.receiver)) has.type ≡ at.is) (look_grows old new grows)
      (subst (λ (name : List ℕ). suits (look_of old) (of_class name) has.type ≡ at.is) (sym (name_grows old new at.receiver grows has.receives)) has.suited);
}

means_grows : (old new : Numbered) (home index : ℕ) (meaning : Meaning) → Grows old new → IsClass old home → Means old home index meaning → Means new home index meaning
means_grows old new home index (Static at) grows is has =
    static_grows old new at (field_of old true home index) (field_of new true home index) grows (field_grows old new true home index grows is) has
means_grows old new home index (Instance at) grows is has =
    instance_grows old new at (field_of old false home index) (field_of new false home index) grows (field_grows old new false home index grows is) has
means_grows old new home index (Objects at) grows is has = objects_grow old new at (objects_of old home index) (objects_of new home index) grows (objects_stay old new home index grows is) has
means_grows old new home index (Test at) grows is has =
    test_grows old new at (type_of_entry old home index) (type_of_entry new home index) grows (ap (λ (found : Result Resolved Stop). found >>= a_type) (entry_grows old new home index grows is)) has
means_grows old new home index (Number word) grows is has = subst (λ (definition : Result Resolved Stop). IsNumber word definition) (sym (entry_grows old new home index grows is)) has

one_grows : (old new : Numbered) (entry : Entry) → Grows old new → IsKept old entry → IsKept new entry
one_grows old new entry grows is = record {
  from = is_class_grows old new entry.home grows is.from;
  means = means_grows old new entry.home entry.index entry.meaning grows is.from is.means;
}

row_grows : (old new : Numbered) (row : Option Entry) → Grows old new → IsRow old row → IsRow new row
row_grows old new (Some entry) grows is = one_grows old new entry grows is
row_grows old new None grows is = is

pub kept_grows : (old new : Numbered) (rows : List (Option Entry)) → Grows old new → AreKept old rows → AreKept new rows
kept_grows old new rows grows are = All-weaker (IsRow old) (IsRow new) (λ row is. row_grows old new row grows is) rows are

-- ---- the entry of a frame

runs_key : (s : StackParts) (key : FrameKey) → s.rest.below.key ≡ Some key → RunsMethod s → key.method ≢ NO_METHOD
runs_key s key e runs = subst (λ (top : Option FrameKey). IfSome top (λ key. key.method ≢ NO_METHOD)) e runs

pub field_found : (n : Numbered) (s : StackParts) (key : FrameKey) (static : Bool) (index : ℕ) → s.rest.below.key ≡ Some key → RunsMethod s → AreKeys n s
    → field_entry (look_of n) static index (top_named n s) ≡ field_of n static key.mirror index
unfolding field_entry
field_found n s key static index e runs keys =
    ap (λ (found : Result Resolved Stop). found >>= field_in static) (entry_found n s key (look_of n) index e (runs_key s key e runs) keys)

-- ---- what is to be kept

home_is : (n : Numbered) (s : StackParts) (key : FrameKey) → s.rest.below.key ≡ Some key → AreKeys n s → IsClass n key.mirror
home_is n s key e keys = (subst (λ (top : Option FrameKey). IfSome top (IsKey n)) e keys.top).class

pub static_kept : (old new : Numbered) (s : StackParts) (key : FrameKey) (index : ℕ) (at : StaticAt) → Grows old new → s.rest.below.key ≡ Some key → RunsMethod s → AreKeys old s
    → HasStatic new at (field_entry (look_of old) true index (top_named old s)) → IsKept new (record { home = key.mirror; index = index; meaning = Static at })
static_kept old new s key index at grows e runs keys has = record {
  from = is_class_grows old new key.mirror grows (home_is old s key e keys);
  means = subst (λ (definition : Result MemberName Stop). HasStatic new at definition)
      (field_found old s key true index e runs keys ∙ sym (field_grows old new true key.mirror index grows (home_is old s key e keys))) has;
}

pub instance_kept : (old new : Numbered) (s : StackParts) (key : FrameKey) (index : ℕ) (at : InstanceAt) → Grows old new → s.rest.below.key ≡ Some key → RunsMethod s → AreKeys old s
    → HasInstance new at (field_entry (look_of old) false index (top_named old s)) → IsKept new (record { home = key.mirror; index = index; meaning = Instance at })
instance_kept old new s key index at grows e runs keys has = record {
  from = is_class_grows old new key.mirror grows (home_is old s key e keys);
  means = subst (λ (definition : Result MemberName Stop). HasInstance new at definition)
      (field_found old s key false index e runs keys ∙ sym (field_grows old new false key.mirror index grows (home_is old s key e keys))) has;
}

pub objects_found : (n : Numbered) (s : StackParts) (key : FrameKey) (index : ℕ) → s.rest.below.key ≡ Some key → RunsMethod s → AreKeys n s
    → (entry_at (look_of n) index (top_named n s) >>= class_of_objects) ≡ objects_of n key.mirror index
objects_found n s key index e runs keys =
    ap (λ (found : Result Resolved Stop). found >>= class_of_objects) (entry_found n s key (look_of n) index e (runs_key s key e runs) keys)

pub objects_kept : (old new : Numbered) (s : StackParts) (key : FrameKey) (index : ℕ) (at : ObjectsAt) → Grows old new → s.rest.below.key ≡ Some key → RunsMethod s → AreKeys old s
    → HasObjects new at (entry_at (look_of old) index (top_named old s) >>= class_of_objects) → IsKept new (record { home = key.mirror; index = index; meaning = Objects at })
objects_kept old new s key index at grows e runs keys has = record {
  from = is_class_grows old new key.mirror grows (home_is old s key e keys);
  means = subst (λ (definition : Result Lineage Stop). HasObjects new at definition)
      (objects_found old s key index e runs keys ∙ sym (objects_stay old new key.mirror index grows (home_is old s key e keys))) has;
}

pub class_by : (looked : Result Resolved Stop) (found : Resolved) (class : Lineage) → looked ≡ Ok found → Ok class ≡ class_of_objects found → (looked >>= class_of_objects) ≡ Ok class
class_by looked found class e f = ap (λ (r : Result Resolved Stop). r >>= class_of_objects) e ∙ sym f

pub type_found : (n : Numbered) (s : StackParts) (key : FrameKey) (index : ℕ) → s.rest.below.key ≡ Some key → RunsMethod s → AreKeys n s
    → type_entry (look_of n) index (top_named n s) ≡ type_of_entry n key.mirror index
unfolding type_entry
type_found n s key index e runs keys =
    ap (λ (found : Result Resolved Stop). found >>= a_type) (entry_found n s key (look_of n) index e (runs_key s key e runs) keys)

pub test_kept : (n : Numbered) (s : StackParts) (key : FrameKey) (index : ℕ) (at : TestAt) → s.rest.below.key ≡ Some key → RunsMethod s → AreKeys n s
    → HasTest n at (type_entry (look_of n) index (top_named n s)) → IsKept n (record { home = key.mirror; index = index; meaning = Test at })
test_kept n s key index at e runs keys has = record {
  from = home_is n s key e keys;
  means = subst (λ (definition : Result ReferenceType Stop). HasTest n at definition) (type_found n s key index e runs keys) has;
}

pub number_found : (n : Numbered) (s : StackParts) (key : FrameKey) (index : ℕ) → s.rest.below.key ≡ Some key → RunsMethod s → AreKeys n s
    → entry_at (look_of n) index (top_named n s) ≡ entry_of n key.mirror index
number_found n s key index e runs keys = entry_found n s key (look_of n) index e (runs_key s key e runs) keys

pub number_kept : (n : Numbered) (s : StackParts) (key : FrameKey) (index : ℕ) (word : Word) → s.rest.below.key ≡ Some key → RunsMethod s → AreKeys n s
    → IsNumber word (entry_at (look_of n) index (top_named n s)) → IsKept n (record { home = key.mirror; index = index; meaning = Number word })
number_kept n s key index word e runs keys has = record {
  from = home_is n s key e keys;
  means = subst (λ (definition : Result Resolved Stop). IsNumber word definition) (number_found n s key index e runs keys) has;
}
