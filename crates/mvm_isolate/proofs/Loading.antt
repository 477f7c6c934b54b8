-- What is left where classes were loaded: by names the same isolate, with all that it keeps; and what a look-up answers.
use Rattle.std.proofs.Common.{◌≡◌, ℕ, zero, suc, ◌+◌, ◌<◌, List, [], ◌∷◌, ◌++◌, length, Bool, true, false, cond, Option, Some, None, Result, Ok, Err, refl, sym, ap, subst, ◌∙◌, arith}
use Rattle.std.specs.Prelude.{slice_get, slice_index_or, is_some, All}
use Rattle.std.proofs.lemmas.List.{length-map}
use Rattle.std.proofs.lemmas.List.Elements.{All-push}
use Rattle.std.proofs.lemmas.Option.{get_or_from_slice_get, same_Some, slice_get_within}
use Rattle.mvm_base.specs.Answers.{AnswersUnless, Fails}
use Rattle.mvm_base.specs.declared.descriptor.FieldShape.{FieldShape}
use Rattle.mvm_mirror.specs.Arrays.{shapes_of}
use Rattle.mvm_mirror.specs.Kept.{classes_of, seen_of}
use Rattle.mvm_mirror.specs.Seen.{Seen, number_like, number_named, number_of, with_class, IsNumbered}
use Rattle.mvm_mirror.specs.declared.arrays.ArrayRow.{ArrayRow}
use Rattle.mvm_mirror.specs.declared.mirrors.Mirrors.{Mirrors}
use Rattle.mvm_mirror.proofs.Numbers.{first, later, named as is_named}
use Rattle.mvm_mirror.proofs.Staying.{class_stays, name_stays as number_stays}
use Rattle.mvm_native.specs.Unclassed.{Head, heads_of}
use Rattle.mvm_native.specs.declared.out.Thrown.{Thrown}
use Rattle.mvm_set.specs.Names.{own_name}
use Rattle.mvm_set.specs.declared.class.Lineage.{Lineage}
use Rattle.mvm_table.specs.Files.{File}
use Rattle.mvm_table.specs.Loads.{class_in, IsLoaded}
use Rattle.mvm_table.specs.declared.fault.LoadFault.{LoadFault}
use Rattle.mvm_table.specs.declared.fault.LoadFault.TheVariants as faults
use Rattle.mvm_isolate.specs.Faults.{looked_up, stopped_by}
use Rattle.mvm_isolate.specs.Isolate.{Isolate}
use Rattle.mvm_isolate.specs.Numbered.{Numbered, name_in, name_of, named, or_object, types_in}
use Rattle.mvm_isolate.specs.Sound.{Grows, Loads, AreKnownIn, AreOfSet, AreThrownIn, HasType, IsOfSet, IsSound, NumbersStay}
use Rattle.mvm_isolate.specs.Types.{ReferenceType}
use Rattle.mvm_isolate.specs.declared.known.Known.{Known}
use Rattle.mvm_isolate.specs.declared.stop.Stop.{Stop}
use Rattle.mvm_isolate.specs.declared.stop.Stop.TheVariants as stop
use Rattle.mvm_isolate.proofs.Growing.{all_typed, types_stay}
use Rattle.mvm_isolate.proofs.Named.{class_set}

-- ---- classes by number

-- the number of a name is that of a class of that name
pub number_found : (name : List ℕ) (classes : List Lineage) (n : ℕ) → number_of name classes ≡ Some n → (class : Lineage) × (slice_get classes n ≡ Some class) × (own_name class.file ≡ Some name)
number_found name [] n e = absurd cc
number_found name (c ∷ cs) zero e = (c, refl, is_named name (own_name c.file) (first _ _ e))
number_found name (c ∷ cs) (suc n) e = number_found name cs n (later _ _ n e).1

pub name_numbered : (name : List ℕ) (classes : List Lineage) (n : ℕ) → IsNumbered classes n name → name_in classes n ≡ name
unfolding name_in
name_numbered name classes n e = let f = number_found name classes n e in ap name_of f.1 ∙ ap or_object f.2

pub number_within : (name : List ℕ) (classes : List Lineage) (n : ℕ) → IsNumbered classes n name → n < length classes
number_within name classes n e = let f = number_found name classes n e in slice_get_within classes n f.0 f.1

-- the number of a class is that of its name
pub number_own : (classes : List Lineage) (class : Lineage) (name : List ℕ) (n : ℕ) → own_name class.file ≡ Some name → number_like class classes ≡ Some n → IsNumbered classes n name
number_own classes class name n e h = subst (λ (own : Option (List ℕ)). number_named own classes ≡ Some n) e h

-- a class that stands at the number of its name
pub numbered_as : (classes : List Lineage) (n : ℕ) (class : Lineage) → slice_get classes n ≡ Some class → number_like class classes ≡ Some n → IsNumbered classes n (name_in classes n)
unfolding name_in
numbered_as classes n class e h = subst (λ (c : Option Lineage). number_of (name_of c) classes ≡ Some n) (sym e) (by (own_name class.file) h)
  where
    by : (own : Option (List ℕ)) → number_named own classes ≡ Some n → number_of (or_object own) classes ≡ Some n
    by (Some name) e = e
    by None e = absurd cc

-- ---- classes that were loaded

module _ (files : List (List File)) (set : ℕ) where
  pub of_set : (classes : List Lineage) (n : ℕ) (class : Lineage) → AreOfSet files set classes → slice_get classes n ≡ Some class → IsOfSet files set class
  of_set classes n class a e = subst (IsOfSet files set) (get_or_from_slice_get classes n class class e) (a n class (slice_get_within classes n class e))

  pub own_is : (classes : List Lineage) (n : ℕ) (class : Lineage) → IsOfSet files set class → slice_get classes n ≡ Some class → own_name class.file ≡ Some (name_in classes n)
  unfolding name_in
  own_is classes n class o e =
      let own : own_name class.file ≡ Some o.loaded.name = o.loaded.is_name in
      own ∙ sym (ap (λ (c : Option Lineage). Some (name_of c)) e ∙ ap (λ (t : Option (List ℕ)). Some (or_object t)) own)

  pub look_is : (classes : List Lineage) (n : ℕ) (class : Lineage) → IsOfSet files set class → slice_get classes n ≡ Some class → class_in files set (name_in classes n) ≡ Ok class
  look_is classes n class o e =
      let same : o.loaded.name ≡ name_in classes n = same_Some _ _ (sym o.loaded.is_name ∙ own_is classes n class o e) in
      subst (λ (name : List ℕ). class_in files set name ≡ Ok class) same (subst (λ (s : ℕ). class_in files s o.loaded.name ≡ Ok class) o.is_set o.loaded.is_class)

  pub made_of : (name : List ℕ) (class : Lineage) → IsLoaded files class → class_in files set name ≡ Ok class → IsOfSet files set class
  made_of name class l e = record { loaded = l; is_set = class_set files set name class e }

  pub loads_same : (old new : Mirrors) → AreOfSet files set (classes_of old) → new ≡ old → Loads files set old new
  loads_same old new a e =
      subst (Loads files set old) (sym e) (record { classes = λ mirror class h. h; numbers = λ mirror name h. h; loaded = a; seen = refl })

  pub loads_class : (old new : Mirrors) (class : Lineage) → AreOfSet files set (classes_of old) → IsOfSet files set class → classes_of new ≡ with_class class (classes_of old) → seen_of new ≡ seen_of old → Loads files set old new
  loads_class old new class a o e s = record {
    classes = λ mirror other h. subst (λ (cs : List Lineage). slice_get cs mirror ≡ Some other) (sym e) (class_stays class other (classes_of old) mirror h);
    numbers = λ mirror name h. subst (λ (cs : List Lineage). number_of name cs ≡ Some mirror) (sym e) (number_stays class (classes_of old) name mirror h);
    loaded = subst (AreOfSet files set) (sym e) (by (is_some (number_like class (classes_of old))));
    seen = s;
  }
    where
      by : (b : Bool) → AreOfSet files set (cond b (classes_of old) (classes_of old ++ class ∷ []))
      by true = a
      by false = All-push (IsOfSet files set) (classes_of old) class a o

  pub loads_then : (old mid new : Mirrors) → Loads files set old mid → Loads files set mid new → Loads files set old new
  loads_then old mid new l m = record {
    classes = λ mirror class h. m.classes mirror class (l.classes mirror class h);
    numbers = λ mirror name h. m.numbers mirror name (l.numbers mirror name h);
    loaded = m.loaded;
    seen = m.seen ∙ l.seen;
  }

-- ---- an isolate

pub known_stay : (old new : List Lineage) (known : Known) → NumbersStay old new → AreKnownIn old known → AreKnownIn new known
known_stay old new known s k = record {
  string = s _ _ k.string;
  object = s _ _ k.object;
  class = s _ _ k.class;
  stream = s _ _ k.stream;
  thread = s _ _ k.thread;
  thrown = record { there = k.thrown.there; named = λ thrown. s _ _ (k.thrown.named thrown) };
}

-- as many array classes as shapes
pub shapes_count : (rows : List ArrayRow) → length (shapes_of rows) ≡ length rows
shapes_count rows = length-map rows (λ (row : ArrayRow). row.shape)

pub all_shaped : (classes : ℕ) (rows : List ArrayRow) (heads : List Head) → All (HasType classes (length rows)) heads → All (HasType classes (length (shapes_of rows))) heads
all_shaped classes rows heads a = subst (λ (n : ℕ). All (HasType classes n) heads) (sym (shapes_count rows)) a

pub named_loads : (n : Numbered) (own : Known) (mirrors : Mirrors) → IsSound n own → Loads n.files n.env.launch.set n.mirrors mirrors → named (record n { mirrors = mirrors }) ≡ named n
unfolding named
named_loads n own mirrors s l =
    let new : Isolate = named (record n { mirrors = mirrors }) in
    let heads : List Head = heads_of n.env.heap.state.objects in
    let types : types_in (classes_of mirrors) (shapes_of n.arrays) heads ≡ types_in (classes_of n.mirrors) (shapes_of n.arrays) heads =
    types_stay (classes_of n.mirrors) (classes_of mirrors) (shapes_of n.arrays) (shapes_of n.arrays) l.classes (λ row shape e. e) heads (all_shaped (length (classes_of n.mirrors)) n.arrays heads s.objects) in
    ap (λ (ts : List ReferenceType). record new { types = ts }) types
    ∙ ap (λ (seen : Seen). record new { types = types_in (classes_of n.mirrors) (shapes_of n.arrays) heads; classes = seen }) l.seen

pub sound_loads : (n : Numbered) (own : Known) (mirrors : Mirrors) → IsSound n own → Loads n.files n.env.launch.set n.mirrors mirrors → IsSound (record n { mirrors = mirrors }) own
sound_loads n own mirrors s l =
    let heads : List Head = heads_of n.env.heap.state.objects in
    let objects : All (HasType (length (classes_of mirrors)) (length (shapes_of n.arrays))) heads =
    all_typed (classes_of n.mirrors) (classes_of mirrors) (shapes_of n.arrays) (shapes_of n.arrays) l.classes (λ row shape e. e) heads (all_shaped (length (classes_of n.mirrors)) n.arrays heads s.objects) in
    record {
      objects = subst (λ (count : ℕ). All (HasType (length (classes_of mirrors)) count) heads) (shapes_count n.arrays) objects;
      classes = l.loaded;
      set = s.set;
      monitors = s.monitors;
      known = known_stay (classes_of n.mirrors) (classes_of mirrors) own l.numbers s.known;
    }

pub grows_loads : (n : Numbered) (mirrors : Mirrors) → Loads n.files n.env.launch.set n.mirrors mirrors → Grows n (record n { mirrors = mirrors })
grows_loads n mirrors l = record { classes = l.classes; arrays = λ row shape e. e; files = refl; launch = refl }
