-- No instruction on objects offers a message.
use Rattle.std.specs.Prelude.{ℕ, List, length, Bool, true, false, Err, codes}
use Rattle.mvm_base.specs.Answers.{◌>>=◌}
use Rattle.mvm_base.specs.declared.descriptor.FieldShape.{FieldShape}
use Rattle.mvm_base.specs.declared.value.Kind.TheVariants as kind
use Rattle.mvm_base.specs.declared.value.Word.{Word}
use Rattle.mvm_base.specs.declared.value.Word.TheVariants.{Int, Long, Ref, Null}
use Rattle.mvm_current.specs.Entries.{entry_at, field_entry, may_store, name_of, type_entry}
use Rattle.mvm_current.specs.Frames.{popped, without}
use Rattle.mvm_current.specs.Values.{may_push, not_null, popped_int}
use Rattle.mvm_heap.specs.Heap.{object_at}
use Rattle.mvm_heap.specs.declared.kind.ItemKind.{ItemKind}
use Rattle.mvm_initialise.specs.Arrays.{arrays_made}
use Rattle.mvm_isolate.specs.Faults.{looked_up}
use Rattle.mvm_isolate.specs.Isolate.{new_array, new_object}
use Rattle.mvm_isolate.specs.Members.{is_declared, or_verify}
use Rattle.mvm_isolate.specs.Types.{of_class}
use Rattle.mvm_isolate.specs.Values.{kind_by, kind_of_items}
use Rattle.mvm_isolate.specs.declared.stop.Stop.TheVariants as stop
use Rattle.mvm_member.specs.Members.{MemberName}
use Rattle.mvm_set.specs.declared.class.Lineage.{Lineage}
use Rattle.mvm_table.specs.Slots.{instance_fields}
use Rattle.mvm_table.specs.declared.resolved.Resolved.{Resolved}
use Rattle.mvm_object.specs.Arrays.{array_length, array_made, array_of_type, arrays_pushed, base_of_code, item_of_array, items_in, lengths, load_item, make_arrays, make_numbers, make_references, may_hold, popped_count, shape_of_type, store_item}
use Rattle.mvm_object.specs.Fields.{constant_pushed, field_loaded, field_place, field_popped, field_pushed, field_stored, get_field, get_static, load_constant, loaded_constant, must_be, put_field, put_static, static_popped, static_pushed, static_value}
use Rattle.mvm_object.specs.Going.{Context, Point, in_frame, in_isolate}
use Rattle.mvm_object.specs.Objects.{answered, cast, check_cast, class_of_objects, instance_of, is_of_entry, make_object, object_pushed, passed, passed_if, tested, throw_object, thrown_object, top_object, truth, value_of}
use Rattle.mvm_thread.proofs.OfferingFree.{Fine, then_fine, on_fine, once_fine, pushing_fine}

-- ---- constants and fields

constant_pushed_fine : (c : Context) (next : ℕ) (found : Resolved) (p : Point) → Fine c (constant_pushed c next found p)
constant_pushed_fine c next found p = then_fine c (loaded_constant c.look p.frame p.isolate found) _ (λ x. pushing_fine c next x.0 (in_isolate x.1 p))

pub constant_fine : (c : Context) (index next : ℕ) (p : Point) → Fine c (load_constant c index next p)
unfolding load_constant
constant_fine c index next p = then_fine c (entry_at c.look index p.frame) _ (λ found. constant_pushed_fine c next found p)

static_pushed_fine : (c : Context) (next : ℕ) (m : MemberName) (p : Point) → Fine c (static_pushed c next m p)
unfolding static_pushed
static_pushed_fine c next m p =
    then_fine c (is_declared c.look m) _ (λ is. then_fine c (static_value p.frame m p.isolate) _ (λ x. pushing_fine c next x.0 (in_isolate x.1 p)))

pub get_static_fine : (c : Context) (index next : ℕ) (p : Point) → Fine c (get_static c index next p)
unfolding get_static
get_static_fine c index next p =
    then_fine c (field_entry c.look true index p.frame) _ (λ m. once_fine c m.class p (static_pushed c next m) (static_pushed_fine c next m))

static_popped_fine : (c : Context) (next : ℕ) (m : MemberName) (p : Point) → Fine c (static_popped c next m p)
unfolding static_popped
static_popped_fine c next m p =
    then_fine c (is_declared c.look m) _ (λ is. then_fine c (popped (kind_by m.desc) p.frame) _ (λ x. on_fine c next x.1 (in_isolate _ p)))

pub put_static_fine : (c : Context) (index next : ℕ) (p : Point) → Fine c (put_static c index next p)
unfolding put_static
put_static_fine c index next p =
    then_fine c (field_entry c.look true index p.frame) _ (λ m.
    then_fine c (may_store (codes "<clinit>") m p.frame) _ (λ may. once_fine c m.class p (static_popped c next m) (static_popped_fine c next m)))

field_pushed_fine : (c : Context) (next : ℕ) (m : MemberName) (class : Lineage) (p : Point) → Fine c (field_pushed c next m class p)
unfolding field_pushed
field_pushed_fine c next m class p =
    then_fine c (popped kind.Ref p.frame) _ (λ x. then_fine c (not_null x.0) _ (λ object.
    then_fine c (field_place c.look m class object p.isolate) _ (λ place. pushing_fine c next _ (in_frame x.1 p))))

field_loaded_fine : (c : Context) (next : ℕ) (m : MemberName) (p : Point) → Fine c (field_loaded c next m p)
field_loaded_fine c next m p = then_fine c (looked_up (c.look.class m.class)) _ (λ class. field_pushed_fine c next m class p)

pub get_field_fine : (c : Context) (index next : ℕ) (p : Point) → Fine c (get_field c index next p)
unfolding get_field
get_field_fine c index next p = then_fine c (field_entry c.look false index p.frame) _ (λ m. field_loaded_fine c next m p)

field_popped_fine : (c : Context) (next : ℕ) (m : MemberName) (class : Lineage) (p : Point) → Fine c (field_popped c next m class p)
unfolding field_popped
field_popped_fine c next m class p =
    then_fine c (popped (kind_by m.desc) p.frame) _ (λ x. then_fine c (popped kind.Ref x.1) _ (λ y. then_fine c (not_null y.0) _ (λ object.
    then_fine c (field_place c.look m class object p.isolate) _ (λ place. on_fine c next y.1 (in_isolate _ p)))))

field_stored_fine : (c : Context) (next : ℕ) (m : MemberName) (p : Point) → Fine c (field_stored c next m p)
field_stored_fine c next m p = then_fine c (looked_up (c.look.class m.class)) _ (λ class. field_popped_fine c next m class p)

pub put_field_fine : (c : Context) (index next : ℕ) (p : Point) → Fine c (put_field c index next p)
unfolding put_field
put_field_fine c index next p =
    then_fine c (field_entry c.look false index p.frame) _ (λ m. then_fine c (may_store (codes "<init>") m p.frame) _ (λ may. field_stored_fine c next m p))

-- ---- arrays

pub load_item_fine : (c : Context) (items : ItemKind) (next : ℕ) (p : Point) → Fine c (load_item c items next p)
unfolding load_item
load_item_fine c items next p =
    then_fine c (popped_int p.frame) _ (λ index. then_fine c (popped kind.Ref index.1) _ (λ array.
    then_fine c (item_of_array items array.0 index.0 p.isolate.heap.objects) _ (λ found. pushing_fine c next _ (in_frame array.1 p))))

pub store_item_fine : (c : Context) (items : ItemKind) (next : ℕ) (p : Point) → Fine c (store_item c items next p)
unfolding store_item
store_item_fine c items next p =
    then_fine c (popped (kind_of_items items) p.frame) _ (λ value. then_fine c (popped_int value.1) _ (λ index. then_fine c (popped kind.Ref index.1) _ (λ array.
    then_fine c (item_of_array items array.0 index.0 p.isolate.heap.objects) _ (λ found.
    then_fine c (may_hold c.look p.isolate items found.array value.0) _ (λ may. on_fine c next array.1 (in_isolate _ p))))))

pub array_length_fine : (c : Context) (next : ℕ) (p : Point) → Fine c (array_length c next p)
unfolding array_length
array_length_fine c next p =
    then_fine c (popped kind.Ref p.frame) _ (λ array. then_fine c (not_null array.0) _ (λ object.
    then_fine c (items_in (object_at p.isolate.heap.objects object).sort) _ (λ kind. pushing_fine c next _ (in_frame array.1 p))))

array_made_fine : (c : Context) (shape : FieldShape) (next : ℕ) (p : Point) → Fine c (array_made c shape next p)
unfolding array_made
array_made_fine c shape next p =
    then_fine c (popped_count p.frame) _ (λ n. then_fine c (may_push kind.Ref n.1) _ (λ may.
    then_fine c (new_array shape n.0 p.isolate) _ (λ x. pushing_fine c next (Ref x.0) (record p { isolate = x.1; frame = n.1 }))))

pub make_numbers_fine : (c : Context) (code next : ℕ) (p : Point) → Fine c (make_numbers c code next p)
unfolding make_numbers
make_numbers_fine c code next p = then_fine c (or_verify (base_of_code code)) _ (λ base. array_made_fine c (record { dims = 1; base = base }) next p)

pub make_references_fine : (c : Context) (index next : ℕ) (p : Point) → Fine c (make_references c index next p)
unfolding make_references
make_references_fine c index next p = then_fine c (array_of_type (type_entry c.look index p.frame)) _ (λ shape. array_made_fine c shape next p)

arrays_pushed_fine : (c : Context) (shape : FieldShape) (counts : List ℕ) (next : ℕ) (p : Point) → Fine c (arrays_pushed c shape counts next p)
unfolding arrays_pushed
arrays_pushed_fine c shape counts next p =
    then_fine c (arrays_made shape counts p.isolate) _ (λ x. pushing_fine c next (Ref x.0) (record p { isolate = x.1; frame = without (length counts) p.frame }))

pub make_arrays_fine : (c : Context) (index dims next : ℕ) (p : Point) → Fine c (make_arrays c index dims next p)
unfolding make_arrays
make_arrays_fine c index dims next p =
    then_fine c (shape_of_type dims (type_entry c.look index p.frame)) _ (λ shape.
    then_fine c (lengths dims p.frame) _ (λ counts. arrays_pushed_fine c shape counts next p))

-- ---- new objects and types

object_pushed_fine : (c : Context) (next : ℕ) (name : List ℕ) (fields : ℕ) (p : Point) → Fine c (object_pushed c next name fields p)
unfolding object_pushed
object_pushed_fine c next name fields p =
    then_fine c (may_push kind.Ref p.frame) _ (λ may. then_fine c (new_object name fields p.isolate) _ (λ x. pushing_fine c next (Ref x.0) (in_isolate x.1 p)))

pub make_object_fine : (c : Context) (index next : ℕ) (p : Point) → Fine c (make_object c index next p)
unfolding make_object
make_object_fine c index next p =
    then_fine c (entry_at c.look index p.frame >>= class_of_objects) _ (λ class. then_fine c (name_of class) _ (λ name.
    once_fine c name p (object_pushed c next name (instance_fields class.line)) (object_pushed_fine c next name (instance_fields class.line))))

passed_fine : (c : Context) (next : ℕ) (p : Point) → Fine c (passed c next p)
passed_fine c next p = then_fine c (popped kind.Ref p.frame) _ (λ x. pushing_fine c next x.0 (in_frame x.1 p))

passed_if_fine : (c : Context) (next : ℕ) (p : Point) (b : Bool) → Fine c (passed_if c next p b)
passed_if_fine c next p true = passed_fine c next p
passed_if_fine c next p false = record { by = tt }

cast_fine : (c : Context) (index next : ℕ) (p : Point) (word : Word) → Fine c (cast c index next p word)
cast_fine c index next p (Ref object) = then_fine c (is_of_entry c.look index p.frame object p.isolate) _ (passed_if_fine c next p)
cast_fine c index next p Null = passed_fine c next p
cast_fine c index next p (Int n) = record { by = tt }
cast_fine c index next p (Long n) = record { by = tt }

pub check_cast_fine : (c : Context) (index next : ℕ) (p : Point) → Fine c (check_cast c index next p)
unfolding check_cast
check_cast_fine c index next p = then_fine c (value_of (popped kind.Ref p.frame)) _ (cast_fine c index next p)

answered_fine : (c : Context) (next : ℕ) (is : Bool) (p : Point) → Fine c (answered c next is p)
answered_fine c next is p = then_fine c (popped kind.Ref p.frame) _ (λ x. pushing_fine c next (truth is) (in_frame x.1 p))

tested_fine : (c : Context) (index next : ℕ) (p : Point) (word : Word) → Fine c (tested c index next p word)
tested_fine c index next p (Ref object) = then_fine c (is_of_entry c.look index p.frame object p.isolate) _ (λ is. answered_fine c next is p)
tested_fine c index next p Null = answered_fine c next false p
tested_fine c index next p (Int n) = record { by = tt }
tested_fine c index next p (Long n) = record { by = tt }

pub instance_of_fine : (c : Context) (index next : ℕ) (p : Point) → Fine c (instance_of c index next p)
unfolding instance_of
instance_of_fine c index next p = then_fine c (value_of (popped kind.Ref p.frame)) _ (tested_fine c index next p)

pub throw_fine : (c : Context) (p : Point) → Fine c (throw_object c p)
unfolding throw_object thrown_object
throw_fine c p =
    then_fine c (top_object p.frame) _ (λ object.
    then_fine c (must_be c.look (of_class (codes "java/lang/Throwable")) object p.isolate) (λ is. Err (stop.Object object)) (λ is. record { by = tt }))
