-- The constants of a class, set one after another.
use Rattle.std.proofs.Common.{◌≡◌, ◌≢◌, ◌<◌, ◌≤◌, ℕ, zero, suc, ◌+◌, ◌-◌, ◌^◌, Bool, true, false, cond, not, ◌&&◌, List, [], ◌∷◌, length, drop, get_or, is_some, IsSome, IfSome, Option, Some, None, Result, Ok, Err, is_ok, IsOk, refl, sym, ap, ◌∙◌, subst, arith, All}
use Rattle.std.specs.Prelude.{slice_get, if◌then◌else◌}
use Rattle.std.specs.List.{filter}
use Rattle.std.specs.Option.{option_map}
use Rattle.std.specs.Str.{bytes_eq}
use Rattle.std.proofs.lemmas.List.{at_drop_more, drop_all}
use Rattle.std.proofs.lemmas.List.Elements.{All-head, All-tail}
use Rattle.std.proofs.lemmas.Option.{slice_get_within}
use Rattle.std.proofs.lemmas.Slice.Eq.{bytes_eq-Decides}
use Rattle.mvm_base.specs.Answers.{◌>>=◌}
use Rattle.mvm_base.specs.declared.value.Word.{Word}
use Rattle.mvm_heap.specs.Heap.{HasRoom}
use Rattle.mvm_layout.specs.Flags.{is_static}
use Rattle.mvm_layout.specs.Pool.{entry, text}
use Rattle.mvm_layout.specs.declared.parts.Item.{Item}
use Rattle.mvm_layout.specs.declared.parts.Member.{Member}
use Rattle.mvm_layout.specs.declared.parts.Parts.{Parts}
use Rattle.mvm_mirror.specs.Statics.{is_field, place_in, slot_of, statics_in}
use Rattle.mvm_set.specs.declared.class.Lineage.{Lineage}
use Rattle.mvm_isolate.specs.Initialise.{constant, constant_set, constant_given, constants_set}
use Rattle.mvm_isolate.specs.Interning.{MayIntern}
use Rattle.mvm_isolate.specs.Isolate.{Isolate}
use Rattle.mvm_isolate.specs.Numbered.{Numbered, class_at, name_at, name_in, named, IsClass}
use Rattle.mvm_isolate.specs.Sound.{Grows}
use Rattle.mvm_isolate.specs.declared.stop.Stop.{Stop}
use Rattle.mvm_initialise.specs.Constants.{constant_text, constant_texts, field_set, in_front, HasSlot, IsShort}

-- ---- isolates in memory

pub grows_trans : (a b c : Numbered) → Grows a b → Grows b c → Grows a c
grows_trans a b c g h = record {
  classes = λ mirror class e. h.classes mirror class (g.classes mirror class e);
  arrays = λ row shape e. h.arrays row shape (g.arrays row shape e);
  files = h.files ∙ g.files;
  launch = h.launch ∙ g.launch;
}

name_by : (a b : Numbered) (mirror : ℕ) (class : Lineage) → class_at a mirror ≡ Some class → class_at b mirror ≡ Some class → name_at b mirror ≡ name_at a mirror
unfolding name_in
name_by a b mirror class e f = rw (e, f) refl

-- the name of a class stays
pub name_stays : (a b : Numbered) (mirror : ℕ) (class : Lineage) → class_at a mirror ≡ Some class → Grows a b → name_at b mirror ≡ name_at a mirror
name_stays a b mirror class e g = name_by a b mirror class e (g.classes mirror class e)

-- room for more texts is room for fewer
pub may_fewer : (n : Numbered) (count : ℕ) → MayIntern n (suc count) → MayIntern n count
may_fewer n count room = record { objects = omega (arith, room.objects); texts = omega (arith, room.texts); words = room.words }

pub may_first : (n : Numbered) (count : ℕ) → MayIntern n (suc count) → MayIntern n 1
may_first n count room = record { objects = omega (arith, room.objects); texts = omega (arith, room.texts); words = room.words }

-- ---- the slot of a static field

same_units : (units : List ℕ) → bytes_eq units units ≡ true
same_units units = (bytes_eq-Decides units units).1 refl

found_here : (pool : List Item) (name desc : List ℕ) (field : Member) → text pool field.name ≡ Some name → text pool field.desc ≡ Some desc → is_field pool name desc field ≡ true
found_here pool name desc field n d =
    let a : bytes_eq name name ≡ true = same_units name in
    let b : bytes_eq desc desc ≡ true = same_units desc in
    rw (n, d, a, b) refl

placed_by : (pool : List Item) (name desc : List ℕ) (field : Member) (fields : List Member) (b : Bool) → is_field pool name desc field ≡ b → IsSome (place_in pool name desc fields) → IsSome (place_in pool name desc (field ∷ fields))
placed_by pool name desc field fields true e rest = rw e refl
placed_by pool name desc field fields false e rest = rw e (by (place_in pool name desc fields) rest)
  where
    by : (o : Option ℕ) → IsSome o → IsSome (option_map suc o)
    by (Some n) h = refl
    by None h = h

placed_first : (pool : List Item) (name desc : List ℕ) (field : Member) (fields : List Member) → is_field pool name desc field ≡ true → IsSome (place_in pool name desc (field ∷ fields))
placed_first pool name desc field fields e = rw e refl

has_place : (pool : List Item) (name desc : List ℕ) (fields : List Member) (place : ℕ) (field : Member) → slice_get fields place ≡ Some field → is_static field.flags ≡ true → is_field pool name desc field ≡ true
    → IsSome (place_in pool name desc (statics_in fields))
has_place pool name desc [] place field g s i = absurd cc
has_place pool name desc (first ∷ fields) zero field g s i =
    let is : first ≡ field = cc in
    let static : is_static first.flags ≡ true = ap (λ (x : Member). is_static x.flags) is ∙ s in
    rw static (placed_first pool name desc first (statics_in fields) (ap (is_field pool name desc) is ∙ i))
has_place pool name desc (first ∷ fields) (suc place) field g s i =
    by (is_static first.flags) (has_place pool name desc fields place field g s i)
  where
    by : (b : Bool) → IsSome (place_in pool name desc (statics_in fields)) → IsSome (place_in pool name desc (cond b (first ∷ statics_in fields) (statics_in fields)))
    by true rest = placed_by pool name desc first (statics_in fields) _ refl rest
    by false rest = rest

pub has_slot : (file : Parts) (place : ℕ) (field : Member) → slice_get file.fields place ≡ Some field → is_static field.flags ≡ true → HasSlot file field
unfolding slot_of
has_slot file place field g s = λ name desc n d. has_place file.pool name desc file.fields place field g s (found_here file.pool name desc field n d)

-- ---- one field

ok_first : {A B E : Type 0} (r : Result A E) (f : A → Result B E) → IsOk (r >>= f) → IsOk r
ok_first (Ok x) f e = refl
ok_first (Err fault) f e = absurd cc

-- where the field is set, its constant can be made
pub constant_fits : (class : List ℕ) (file : Parts) (field : Member) (index : ℕ) (s : Isolate) → is_static field.flags ≡ true → field.constant ≡ Some index → IsOk (field_set class file field s)
    → IsOk (constant file.pool (entry file.pool index) s)
constant_fits class file field index s b i ok =
    let k = rw (b, i) at ok in
    ok_first (constant file.pool (entry file.pool index) s) _ k

pub field_is_set : (class : List ℕ) (file : Parts) (field : Member) (index : ℕ) (value : Word) (s t : Isolate) → is_static field.flags ≡ true → field.constant ≡ Some index
    → constant file.pool (entry file.pool index) s ≡ Ok (value, t) → field_set class file field s ≡ Ok (constant_set class (text file.pool field.name) (text file.pool field.desc) (value, t))
field_is_set class file field index value s t b i e = rw (b, i, e) refl

pub not_static : (class : List ℕ) (file : Parts) (field : Member) (s : Isolate) → is_static field.flags ≡ false → field_set class file field s ≡ Ok s
not_static class file field s b = rw b refl

none_by : (class : List ℕ) (file : Parts) (field : Member) (s : Isolate) (b : Bool) → (if b then constant_given class file field None s else Ok s) ≡ Ok s
none_by class file field s true = refl
none_by class file field s false = refl

pub no_constant : (class : List ℕ) (file : Parts) (field : Member) (s : Isolate) → field.constant ≡ None → field_set class file field s ≡ Ok s
no_constant class file field s i = rw i (none_by class file field s (is_static field.flags))

-- ---- a loop over fields

-- so far the fields before were set
pub record Setting (old new : Numbered) (mirror : ℕ) (class : Lineage) (fields : List Member) (place : ℕ) : Type 0 where
  pub fields_are : fields ≡ class.file.fields
  pub rest : constants_set (name_at old mirror) class.file fields (named old) ≡ constants_set (name_at old mirror) class.file (drop place fields) (named new)
  pub class_is : class_at new mirror ≡ Some class
  pub short : All IsShort (constant_texts class.file.pool (drop place fields))
  pub room : MayIntern new (length fields - place)
  pub links : new.env.links ≡ old.env.links
  pub grows : Grows old new

module _ (old mid : Numbered) (mirror : ℕ) (class : Lineage) (fields : List Member) where
  pub setting_begins : fields ≡ class.file.fields → class_at old mirror ≡ Some class → All IsShort (constant_texts class.file.pool class.file.fields) → MayIntern old (length class.file.fields) → Setting old old mirror class fields 0
  setting_begins e is short room = record {
    fields_are = e;
    rest = refl;
    class_is = is;
    short = rw e short;
    room = subst (MayIntern old) (let n : length fields ≡ length class.file.fields = ap length e in omega (arith, n)) room;
    links = refl;
    grows = record { classes = λ m c h. h; arrays = λ row shape h. h; files = refl; launch = refl };
  }

  drop_is : (place : ℕ) (field : Member) → place < length fields → field ≡ get_or fields place field → drop place fields ≡ field ∷ drop (place + 1) fields
  drop_is place field h e = at_drop_more (λ (x : List Member). x) fields place field h ∙ ap (λ (x : Member). x ∷ drop (place + 1) fields) (sym e)

  cons_set : (name : List ℕ) (field : Member) (others : List Member) (s : Isolate) → constants_set name class.file (field ∷ others) s ≡ (field_set name class.file field s >>= constants_set name class.file others)
  unfolding constants_set
  cons_set name field others s = refl

  cons_texts : (field : Member) (others : List Member) → constant_texts class.file.pool (field ∷ others) ≡ in_front (constant_text class.file.pool field) (constant_texts class.file.pool others)
  unfolding constant_texts
  cons_texts field others = refl

  front_short : (found : Option (List ℕ)) (others : List (List ℕ)) → All IsShort (in_front found others) → IfSome found IsShort
  front_short (Some units) others all = All-head IsShort units others all
  front_short None others all = tt

  rest_short : (found : Option (List ℕ)) (others : List (List ℕ)) → All IsShort (in_front found others) → All IsShort others
  rest_short (Some units) others all = All-tail IsShort units others all
  rest_short None others all = all

  module _ (place : ℕ) (field : Member) (within : place < length fields) (at : field ≡ get_or fields place field) (k : Setting old mid mirror class fields place) where
    pub setting_there : IsClass mid mirror
    setting_there = slice_get_within _ mirror class k.class_is

    here_short : All IsShort (in_front (constant_text class.file.pool field) (constant_texts class.file.pool (drop (place + 1) fields)))
    here_short = subst (All IsShort) (ap (constant_texts class.file.pool) (drop_is place field within at) ∙ cons_texts field (drop (place + 1) fields)) k.short

    pub setting_short : IfSome (constant_text class.file.pool field) IsShort
    setting_short = front_short (constant_text class.file.pool field) _ here_short

    pub setting_room : MayIntern mid 1
    setting_room = may_first mid (length fields - (place + 1)) (subst (MayIntern mid) (omega (arith, within)) k.room)

    is_name : class_at old mirror ≡ Some class → name_at mid mirror ≡ name_at old mirror
    is_name is = name_stays old mid mirror class is k.grows

    steps : constants_set (name_at old mirror) class.file fields (named old) ≡ (field_set (name_at old mirror) class.file field (named mid) >>= constants_set (name_at old mirror) class.file (drop (place + 1) fields))
    steps = k.rest ∙ (ap (λ (x : List Member). constants_set (name_at old mirror) class.file x (named mid)) (drop_is place field within at) ∙ cons_set (name_at old mirror) field (drop (place + 1) fields) (named mid))

    pub setting_fits : class_at old mirror ≡ Some class → IsOk (constants_set (name_at old mirror) class.file class.file.fields (named old)) → IsOk (field_set (name_at mid mirror) class.file field (named mid))
    setting_fits is ok =
        let whole : IsOk (constants_set (name_at old mirror) class.file fields (named old)) = rw k.fields_are ok in
        let first : IsOk (field_set (name_at old mirror) class.file field (named mid)) = ok_first _ (constants_set (name_at old mirror) class.file (drop (place + 1) fields)) (subst (λ (r : Result Isolate Stop). IsOk r) steps whole) in
        rw (is_name is) first

    pub setting_slot : is_static field.flags ≡ true → HasSlot class.file field
    setting_slot s = has_slot class.file place field (subst (λ (x : List Member). slice_get x place ≡ Some field) k.fields_are get) s
      where
        read : (xs : List Member) (i : ℕ) (x : Member) → i < length xs → x ≡ get_or xs i x → slice_get xs i ≡ Some x
        read [] i x h e = absurd (omega (arith, h))
        read (y ∷ ys) zero x h e = ap (λ (z : Member). Some z) (sym e)
        read (y ∷ ys) (suc i) x h e = read ys i x (omega (arith, h)) e

        get : slice_get fields place ≡ Some field
        get = read fields place field within at

    pub setting_more : (new : Numbered) → class_at old mirror ≡ Some class → field_set (name_at mid mirror) class.file field (named mid) ≡ Ok (named new)
        → ((count : ℕ) → MayIntern mid (suc count) → MayIntern new count) → new.env.links ≡ mid.env.links → Grows mid new → Setting old new mirror class fields (place + 1)
    setting_more new is set fewer links g =
        let here : field_set (name_at old mirror) class.file field (named mid) ≡ Ok (named new) = rw (← is_name is) set in
        record {
          fields_are = k.fields_are;
          rest = steps ∙ ap (λ (r : Result Isolate Stop). r >>= constants_set (name_at old mirror) class.file (drop (place + 1) fields)) here;
          class_is = g.classes mirror class k.class_is;
          short = rest_short (constant_text class.file.pool field) _ here_short;
          room = fewer (length fields - (place + 1)) (subst (MayIntern mid) (omega (arith, within)) k.room);
          links = links ∙ k.links;
          grows = grows_trans old mid new k.grows g;
        }

  pub setting_ends : (place : ℕ) → length fields ≤ place → Setting old mid mirror class fields place → constants_set (name_at old mirror) class.file class.file.fields (named old) ≡ Ok (named mid)
  unfolding constants_set
  setting_ends place h k =
      let all : constants_set (name_at old mirror) class.file fields (named old) ≡ Ok (named mid) =
      k.rest ∙ ap (λ (x : List Member). constants_set (name_at old mirror) class.file x (named mid)) (drop_all place fields h) in
      rw (← k.fields_are) all
