-- What the operands in place say of an element is what the popped values say.
use Rattle.std.proofs.Common.{◌≡◌, ◌∙◌, ℕ, ℤ, List, [], ◌∷◌, Bool, true, false, Option, Some, None, Result, Ok, Err, length, refl, sym, ap}
use Rattle.std.specs.Prelude.{if◌then◌else◌, slice_get}
use Rattle.mvm_base.specs.Answers.{◌>>=◌}
use Rattle.mvm_base.specs.declared.value.Kind.TheVariants as kind
use Rattle.mvm_base.specs.declared.value.Word.{Word}
use Rattle.mvm_base.specs.declared.value.Word.TheVariants as word
use Rattle.mvm_frame.specs.Calls.{pop, pop_one, an_int, a_ref}
use Rattle.mvm_frame.specs.Parts.{Operands}
use Rattle.mvm_frame.specs.declared.refused.Refused.{Refused}
use Rattle.mvm_frame.specs.declared.slot.Slot.{Slot}
use Rattle.mvm_frame.specs.declared.slot.Slot.TheVariants as slot
use Rattle.mvm_heap.specs.Heap.{object_at}
use Rattle.mvm_heap.specs.Objects.{Object}
use Rattle.mvm_heap.specs.Sorts.{bits_of}
use Rattle.mvm_heap.specs.declared.kind.ItemKind.{ItemKind}
use Rattle.mvm_heap.specs.declared.kind.ItemKind.TheVariants as item
use Rattle.mvm_native.specs.declared.out.Thrown.TheVariants.{ArrayStoreException, VerifyError}
use Rattle.mvm_isolate.specs.Isolate.{Isolate, stopped, with_number}
use Rattle.mvm_isolate.specs.Look.{Look}
use Rattle.mvm_isolate.specs.declared.stop.Stop.{Stop}
use Rattle.mvm_current.specs.Frames.{Frame, popped, verified, with_operands}
use Rattle.mvm_current.specs.Values.{int_of, not_null, popped_int}
use Rattle.mvm_object.specs.Arrays.{index_in, item_of_array, items_in, may_hold, serves, store_item}
use Rattle.mvm_object.specs.Elements.{held_by, held_on}
use Rattle.mvm_object.specs.Going.{Context, Point, Went, going_on, in_isolate}
use Rattle.mvm_object.specs.declared.arrays.Item.{Item}

abbrev value_of_slot : ℕ → List Slot → Word → Result (Word × Operands) Refused
value_of_slot depth slots w = Ok (w, record { depth = depth; slots = slots })

abbrev of_frame : Frame → Word × Operands → Result (Word × Frame) Stop
of_frame f x = Ok (x.0, with_operands x.1 f)

abbrev as_int : Word × Frame → Result (ℤ × Frame) Stop
as_int x = int_of x.0 >>= λ n. Ok (n, x.1)

-- one slot was popped, and these are left
record One (f : Slot → Result Word Refused) (old new : List Slot) (value : Word) : Type 0 where
  slot : Slot
  there : old ≡ slot ∷ new
  is : f slot ≡ Ok value

of_slot : (g : Slot → Result Word Refused) (f : Frame) (s : Slot) (slots : List Slot) (r : Result Word Refused) (value : Word) (left : Frame)
    → f.body.operands.slots ≡ s ∷ slots → g s ≡ r
    → (verified (r >>= value_of_slot f.body.operands.depth slots) >>= of_frame f) ≡ Ok (value, left)
    → One g f.body.operands.slots left.body.operands.slots value
of_slot g f s slots (Ok w) value left is given e =
    let both : ◌≡◌ {A = Word × Frame} (w, with_operands (record { depth = f.body.operands.depth; slots = slots }) f) (value, left) = cc in
    let same : w ≡ value = ap (λ (x : Word × Frame). x.0) both in
    let after : slots ≡ left.body.operands.slots = ap (λ (x : Word × Frame). x.1.body.operands.slots) both in
    record { slot = s; there = is ∙ ap (λ (others : List Slot). s ∷ others) after; is = given ∙ ap (λ (x : Word). Ok x) same }
of_slot g f s slots (Err refused) value left is given e = absurd cc

of_slots : (g : Slot → Result Word Refused) (f : Frame) (slots : List Slot) (value : Word) (left : Frame)
    → f.body.operands.slots ≡ slots
    → (verified (pop_one g f.body.operands.depth slots) >>= of_frame f) ≡ Ok (value, left)
    → One g f.body.operands.slots left.body.operands.slots value
of_slots g f [] value left is e = absurd cc
of_slots g f (s ∷ slots) value left is e = of_slot g f s slots (g s) value left is refl e

ref_popped : (f : Frame) (value : Word) (left : Frame) → popped kind.Ref f ≡ Ok (value, left) → One a_ref f.body.operands.slots left.body.operands.slots value
unfolding popped pop
ref_popped f value left e = of_slots a_ref f f.body.operands.slots value left refl e

int_by : (f : Frame) (r : Result (Word × Frame) Stop) (index : ℤ) (left : Frame) → popped kind.Int f ≡ r → (r >>= as_int) ≡ Ok (index, left) → (value : Word) × (popped kind.Int f ≡ Ok (value, left))
int_by f (Ok (word.Int n, g)) index left is e = (word.Int n, is ∙ (let both : ◌≡◌ {A = ℤ × Frame} (n, g) (index, left) = cc in ap (λ (x : ℤ × Frame). Ok (word.Int n, x.1)) both))
int_by f (Ok (word.Long n, g)) index left is e = absurd cc
int_by f (Ok (word.Ref n, g)) index left is e = absurd cc
int_by f (Ok (word.Null, g)) index left is e = absurd cc
int_by f (Err stop) index left is e = absurd cc

int_popped : (f : Frame) (index : ℤ) (left : Frame) → popped_int f ≡ Ok (index, left) → (value : Word) × One an_int f.body.operands.slots left.body.operands.slots value
unfolding popped_int popped pop
int_popped f index left e =
    let x = int_by f (popped kind.Int f) index left refl e in (x.0, of_slots an_int f f.body.operands.slots x.0 left refl x.1)

-- the value is stored where it is a reference that the array may hold
abbrev stores : Bool → Result (Unit {0}) Stop
stores held = if held then Ok tt else stopped ArrayStoreException

of_value : (look : Look) (s : Isolate) (object : ℕ) (x : Slot) (value : Word) → a_ref x ≡ Ok value → may_hold look s item.Ref object value ≡ stores (held_by look s (Some (slot.Ref object)) (Some x))
unfolding may_hold
of_value look s object (slot.Ref n) value e = let is : word.Ref n ≡ value = cc in rw (← is) refl
of_value look s object slot.Null value e = let is : word.Null ≡ value = cc in rw (← is) refl
of_value look s object (slot.Int n) value e = absurd cc
of_value look s object (slot.Long n) value e = absurd cc
of_value look s object slot.Half value e = absurd cc
of_value look s object slot.Unset value e = absurd cc

of_array : (z : Slot) (array : Word) (object : ℕ) → a_ref z ≡ Ok array → not_null array ≡ Ok object → z ≡ slot.Ref object
of_array (slot.Ref n) array object e there =
    let is : word.Ref n ≡ array = cc in let both : Ok n ≡ Ok object = ap not_null is ∙ there in let same : n ≡ object = cc in ap slot.Ref same
of_array slot.Null array object e there = absurd (let is : word.Null ≡ array = cc in let both = ap not_null is ∙ there in cc)
of_array (slot.Int n) array object e there = absurd cc
of_array (slot.Long n) array object e there = absurd cc
of_array slot.Half array object e there = absurd cc
of_array slot.Unset array object e there = absurd cc

pub held_is : (look : Look) (s : Isolate) (f f1 f2 f3 : Frame) (value array : Word) (index : ℤ) (object : ℕ)
    → popped kind.Ref f ≡ Ok (value, f1) → popped_int f1 ≡ Ok (index, f2) → popped kind.Ref f2 ≡ Ok (array, f3) → not_null array ≡ Ok object
    → may_hold look s item.Ref object value ≡ stores (held_on look s f.body.operands.slots)
held_is look s f f1 f2 f3 value array index object first second third there =
    let x = ref_popped f value f1 first in
    let y = int_popped f1 index f2 second in
    let z = ref_popped f2 array f3 third in
    let slots : f.body.operands.slots ≡ x.slot ∷ y.1.slot ∷ z.slot ∷ f3.body.operands.slots =
    x.there ∙ ap (λ (others : List Slot). x.slot ∷ others) (y.1.there ∙ ap (λ (others : List Slot). y.1.slot ∷ others) z.there) in
    let held : held_on look s f.body.operands.slots ≡ held_by look s (Some (slot.Ref object)) (Some x.slot) =
    ap (held_on look s) slots ∙ ap (λ (below : Slot). held_by look s (Some below) (Some x.slot)) (of_array z.slot array object z.is there) in
    of_value look s object x.slot value x.is ∙ ap stores (sym held)

-- ---- the array is that of the item

abbrev item_if : Bool → Item → Result Item Stop
item_if served x = if served then Ok x else stopped VerifyError

by_served : (served : Bool) (x i : Item) → item_if served x ≡ Ok i → x.array ≡ i.array
by_served true x i e = let same : x ≡ i = cc in ap (λ (y : Item). y.array) same
by_served false x i e = absurd cc

abbrev placed_in : ItemKind → ℕ → ItemKind → ℕ → Result Item Stop
placed_in wanted object kind place = item_if (serves wanted kind) (record { array = object; place = place; kind = kind })

by_place : (wanted : ItemKind) (object : ℕ) (kind : ItemKind) (r : Result ℕ Stop) (i : Item) → (r >>= placed_in wanted object kind) ≡ Ok i → object ≡ i.array
by_place wanted object kind (Ok place) i e = by_served (serves wanted kind) (record { array = object; place = place; kind = kind }) i e
by_place wanted object kind (Err stop) i e = absurd cc

abbrev kept_in : ItemKind → ℕ → ℤ → ℕ → ItemKind → Result Item Stop
kept_in wanted object index count kind = index_in index count >>= placed_in wanted object kind

by_kind : (wanted : ItemKind) (object : ℕ) (index : ℤ) (count : ℕ) (r : Result ItemKind Stop) (i : Item) → (r >>= kept_in wanted object index count) ≡ Ok i → object ≡ i.array
by_kind wanted object index count (Ok kind) i e = by_place wanted object kind (index_in index count) i e
by_kind wanted object index count (Err stop) i e = absurd cc

array_is : (wanted : ItemKind) (array : Word) (index : ℤ) (os : List Object) (i : Item) → item_of_array wanted array index os ≡ Ok i → not_null array ≡ Ok i.array
unfolding item_of_array
array_is wanted (word.Ref object) index os i e = ap (λ (n : ℕ). Ok n) (by_kind wanted object index (length (object_at os object).contents) (items_in (object_at os object).sort) i e)
array_is wanted word.Null index os i e = absurd cc
array_is wanted (word.Int n) index os i e = absurd cc
array_is wanted (word.Long n) index os i e = absurd cc

-- ---- the whole

abbrev when_held : Bool → Went → Result Went Stop
when_held held w = stores held >>= λ may. Ok w

pub stored : (c : Context) (next : ℕ) (p : Point) (f1 f2 f3 : Frame) (value array : Word) (index : ℤ) (i : Item) (held : Bool)
    → popped kind.Ref p.frame ≡ Ok (value, f1) → popped_int f1 ≡ Ok (index, f2) → popped kind.Ref f2 ≡ Ok (array, f3) → item_of_array item.Ref array index p.isolate.heap.objects ≡ Ok i
    → held ≡ held_on c.look p.isolate p.frame.body.operands.slots
    → store_item c item.Ref next p ≡ when_held held (going_on c next f3 (in_isolate (with_number i.array i.place (bits_of value) p.isolate) p))
unfolding store_item
stored c next p f1 f2 f3 value array index i held first second third found e =
    let may : may_hold c.look p.isolate item.Ref i.array value ≡ stores held =
    held_is c.look p.isolate p.frame f1 f2 f3 value array index i.array first second third (array_is item.Ref array index p.isolate.heap.objects i found) ∙ ap stores (sym e) in
    rw (first, second, third, found, may) refl
